-- How a log is kept: its streams once each, the bytes of its payloads in one row, and an entry for each event.
use Rattle.std.specs.Prelude.{◌≡◌, ℕ, suc, ◌+◌, ◌*◌, ◌<◌, ◌≤◌, List, [], ◌∷◌, ◌++◌, length, get_or, map, take, drop}
use Rattle.std.specs.List.{AllByRecursion}
use Rattle.stream_ident.specs.declared.event.Event.{Event}
use Rattle.stream_ident.specs.declared.ident.StreamId.{StreamId}
use Rattle.stream_ident.specs.declared.token.Token.{Token}
use Rattle.stream_ident.specs.Alphabet.{IsPayload}
use Rattle.stream_ident.specs.declared.limits.TheConstants.{PAYLOAD_BYTES}
use Rattle.partition_queue.specs.declared.queue.Entry.{Entry}

-- what stands for a stream where there is none
abbrev pub no_stream : StreamId
no_stream = record { namespace = []; key = [] }

abbrev pub token_of : Entry → Token
token_of e = record { seq = e.seq; idx = e.idx }

abbrev pub payload_in : List ℕ → Entry → List ℕ
payload_in bytes e = take e.len (drop e.start bytes)

-- the event of an entry
abbrev pub event_of : List StreamId → List ℕ → Entry → Event
event_of streams bytes e = record { stream = get_or streams e.stream no_stream; token = token_of e; payload = payload_in bytes e }

abbrev pub events_in : List StreamId → List ℕ → List Entry → List Event
events_in streams bytes entries = map (event_of streams bytes) entries

-- the stream of an entry is there, and so is its payload
pub record IsEntry (streams : List StreamId) (bytes : List ℕ) (e : Entry) : Type 0 where
  pub stream : e.stream < length streams
  pub end : e.start + e.len ≤ length bytes
  pub payload : IsPayload (payload_in bytes e)

-- what is so of the rows of every log
pub record IsKept (streams : List StreamId) (bytes : List ℕ) (entries : List Entry) : Type 0 where
  pub each : AllByRecursion (IsEntry streams bytes) entries
  pub short : length bytes ≤ PAYLOAD_BYTES * length entries
  pub few : length streams ≤ length entries

-- the entry of a payload at this place of a batch, which begins at this byte
abbrev pub entry_of : ℕ → ℕ → ℕ → ℕ → List ℕ → Entry
entry_of stream seq idx start payload = record { stream = stream; seq = seq; start = start; len = length payload; idx = idx }

-- the entries of a batch from this place in it on, whose payloads begin at this byte
abbrev pub entries_of : ℕ → ℕ → ℕ → ℕ → List (List ℕ) → List Entry
entries_of stream seq idx start [] = []
entries_of stream seq idx start (payload ∷ payloads) =
    entry_of stream seq idx start payload ∷ entries_of stream seq (suc idx) (start + length payload) payloads

-- one stream more at the end, or none
abbrev pub Grows : List StreamId → List StreamId → Type 0
Grows old new = (more : List StreamId) × (new ≡ old ++ more) × (length more ≤ 1)
