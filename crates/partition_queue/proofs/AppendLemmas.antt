-- A log to which a batch was written.
use Rattle.partition_queue.proofs.Prelude.{◌≡◌, ◌∙◌, ap, ℕ, ◌+◌, ◌-◌, ◌<◌, ◌≤◌, ◌++◌, List, length, get_or, arith, AllByRecursion, concat, IsPayload, events_of, StreamId}
use Rattle.stream_ident.specs.declared.event.Event.{Event}
use Rattle.partition_queue.specs.declared.appended.Appended.{Appended}
use Rattle.partition_queue.specs.declared.appended.Appended.TheVariants.{Accepted}
use Rattle.partition_queue.specs.declared.queue.Entry.{Entry}
use Rattle.partition_queue.specs.Log.{entries_of, events_in, no_stream, Grows, IsKept}
use Rattle.partition_queue.specs.Queue.{PlainQueue, append, Fits, IsLog}
use Rattle.partition_queue.proofs.EventLemmas.{accepts, log_with}
use Rattle.partition_queue.proofs.LogLemmas.{events_with, kept_with}

-- what a log keeps
pub record Kept : Type 0 where
  pub streams : List StreamId
  pub bytes : List ℕ
  pub entries : List Entry

abbrev pub log_of : Kept → ℕ → ℕ → PlainQueue
log_of kept batches limit = record { events = events_in kept.streams kept.bytes kept.entries; batches = batches; limit = limit }

-- the events of a batch were written behind what was kept
pub record IsWritten (old new : Kept) (stream : StreamId) (number seq : ℕ) (batch : List (List ℕ)) : Type 0 where
  pub grows : Grows old.streams new.streams
  pub long : new.bytes ≡ old.bytes ++ concat batch
  pub more : new.entries ≡ old.entries ++ entries_of number seq 0 (length old.bytes) batch
  pub within : number < length new.streams
  pub stored : get_or new.streams number no_stream ≡ stream
  pub payloads : AllByRecursion IsPayload batch

-- what the log keeps now gives the events that it gave, and those of the batch
with_batch : (old new : Kept) (stream : StreamId) (number batches : ℕ) (payloads : List (List ℕ)) → IsWritten old new stream number batches payloads → IsKept old.streams old.bytes old.entries
    → events_in new.streams new.bytes new.entries ≡ events_in old.streams old.bytes old.entries ++ events_of stream batches 0 payloads
with_batch old new stream number batches payloads is kept =
    events_with old.streams new.streams old.bytes new.bytes old.entries new.entries stream number batches payloads is.grows is.long is.more is.stored kept

pub still_log : (old new : Kept) (stream : StreamId) (number batches limit : ℕ) (payloads : List (List ℕ)) → IsWritten old new stream number batches payloads
    → IsLog (log_of old batches limit) → IsKept old.streams old.bytes old.entries → Fits (log_of old batches limit) (length payloads)
    → IsLog (log_of new (batches + 1) limit) × IsKept new.streams new.bytes new.entries
still_log old new stream number batches limit payloads is log kept fits =
    let some = fits.some in
    let room = fits.room in
    let left : length payloads ≤ limit - length (events_in old.streams old.bytes old.entries) = omega (arith, room) in (
      log_with (log_of old batches limit) stream payloads _ (with_batch old new stream number batches payloads is kept) log some left,
      kept_with old.streams new.streams old.bytes new.bytes old.entries new.entries number batches payloads is.grows is.long is.more is.within some is.payloads kept,
    )

pub written-appends : (old new : Kept) (stream : StreamId) (number batches limit : ℕ) (payloads : List (List ℕ)) → IsWritten old new stream number batches payloads
    → IsKept old.streams old.bytes old.entries → Fits (log_of old batches limit) (length payloads)
    → ◌≡◌ {A = PlainQueue × Appended} (log_of new (batches + 1) limit, Accepted batches) (append (log_of old batches limit) stream payloads)
written-appends old new stream number batches limit payloads is kept fits =
    ap {A = List Event} {B = PlainQueue × Appended} (λ events. (record { events = events; batches = batches + 1; limit = limit }, Accepted batches)) (with_batch old new stream number batches payloads is kept)
    ∙ accepts (log_of old batches limit) stream payloads fits.some fits.few fits.room
