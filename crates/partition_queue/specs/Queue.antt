-- The log of a partition as plain data, and what a publish does to it.
use Rattle.std.specs.Prelude.{◌≡◌, ℕ, suc, ◌+◌, ◌<◌, ◌≤◌, Bool, true, false, ◌||◌, ◌==◌, nat_lt, List, [], ◌++◌, length, get_or, map, take, drop, ◌-◌, if◌then◌else◌}
use Rattle.stream_ident.specs.declared.event.Event.{Event}
use Rattle.stream_ident.specs.declared.ident.StreamId.{StreamId}
use Rattle.stream_ident.specs.declared.token.Token.{Token}
use Rattle.stream_ident.specs.Event.{batch_token, events_of, no_event}
use Rattle.stream_ident.specs.Token.{token_lt}
use Rattle.stream_ident.specs.declared.limits.TheConstants.{BATCH_EVENTS, MOST_EVENTS}
use Rattle.partition_queue.specs.declared.appended.Appended.{Appended}
use Rattle.partition_queue.specs.declared.appended.Appended.TheVariants.{Accepted, BadBatch, QueueFull}

-- the events in the order of the queue, how many batches were accepted, and how many events there may be
pub record PlainQueue : Type 0 where
  pub events : List Event
  pub batches : ℕ
  pub limit : ℕ

-- a log before the first publish
abbrev pub empty : ℕ → PlainQueue
empty limit = record { events = []; batches = 0; limit = limit }

-- the event at a position of a log
abbrev pub event_at : PlainQueue → ℕ → Event
event_at q position = get_or q.events position no_event

-- the token at a position, and at the end that of the next batch
abbrev pub token_at : PlainQueue → ℕ → Token
token_at q position = get_or (map (λ event. event.token) q.events) position (batch_token q.batches)

-- the events from one position up to another
abbrev pub between : PlainQueue → ℕ → ℕ → List Event
between q from to = take (to - from) (drop from q.events)

-- A batch of 1 to 64 payloads stands at the end, if it fits.
abbrev pub append : PlainQueue → StreamId → List (List ℕ) → PlainQueue × Appended
append q stream payloads =
    if (length payloads == 0) || nat_lt BATCH_EVENTS (length payloads) then (q, BadBatch)
    else if nat_lt q.limit (length q.events + length payloads) then (q, QueueFull)
    else (record { events = q.events ++ events_of stream q.batches 0 payloads; batches = suc q.batches; limit = q.limit }, Accepted q.batches)

-- a batch of this many payloads is accepted
pub record Fits (q : PlainQueue) (count : ℕ) : Type 0 where
  pub some : 0 < count
  pub few : count ≤ BATCH_EVENTS
  pub room : length q.events + count ≤ q.limit

-- the answer that a batch is accepted; only such a batch may want memory
abbrev pub takes_memory : Appended → Bool
takes_memory (Accepted seq) = true
takes_memory _ = false

-- Each token is greater than those before it, and is of a batch that was accepted.
pub record TokensRise (q : PlainQueue) : Type 0 where
  pub rising : (i j : ℕ) → i < j → j < length q.events → token_lt (event_at q i).token (event_at q j).token ≡ true
  pub accepted : (i : ℕ) → i < length q.events → (event_at q i).token.seq < q.batches

-- what is so of every queue
pub record IsLog (q : PlainQueue) : Type 0 where
  pub within : length q.events ≤ q.limit
  pub limit : q.limit ≤ MOST_EVENTS
  pub batches : q.batches ≤ length q.events
  pub tokens : TokensRise q
