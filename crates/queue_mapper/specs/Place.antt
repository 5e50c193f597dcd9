-- The place of a stream: the queue and the tag that SHA-256 gives.
use Rattle.std.specs.Prelude.{ℕ, ◌%◌, List, [], ◌∷◌, ◌++◌, map, take, slice_index}
use Rattle.std.specs.Int.{from_be_bytes, w64}
use Rattle.sha2.specs.Sha256.{sha256}
use Rattle.stream_ident.specs.declared.event.Event.{Event}
use Rattle.stream_ident.specs.declared.ident.StreamId.{StreamId}
use Rattle.queue_mapper.specs.declared.target.Place.{Place}

-- the namespace, one zero byte, the key
abbrev pub message_of : StreamId → List ℕ
message_of stream = stream.namespace ++ 0 ∷ stream.key

-- from a digest: bytes 0 to 7, the highest first, modulo the number of queues; and byte 8
abbrev pub place_in : List ℕ → ℕ → Place
place_in digest queues = record { queue = from_be_bytes w64 (take 8 digest) % queues; tag = slice_index digest 8 }

-- The queue and the tag of a stream, of the SHA-256 of its namespace, a zero byte and its key: the first
-- eight bytes, highest first, modulo the number of queues, and the next byte.
abbrev pub place_of : StreamId → ℕ → Place
place_of stream queues = place_in (sha256 (message_of stream)) queues

-- the tag of a stream, whichever the number of queues
abbrev pub tag_of : StreamId → ℕ
tag_of stream = (place_of stream 1).tag

-- the tag of each event's stream
abbrev pub tags_of : List Event → List ℕ
tags_of events = map (λ event. tag_of event.stream) events

-- an event with no byte of its payload, as are those of a cache
abbrev pub bare : Event → Event
bare event = record event { payload = [] }
