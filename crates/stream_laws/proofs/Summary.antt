-- All that a history says, as one value that each entry changes.
use Rattle.stream_laws.proofs.Prelude.{◌≡◌, ℕ, Bool, false, List, ◌∷◌, length, take, drop, ◌≤◌, Option, refl, Event, SubName, TURN_EVENTS, Token, Binding, Entry, batch_count, batches_after, begun_after, binding_after, binding_of, closed_after, committed_after, handled_after, handled_events, is_closed, last_note, low_after, low_told, note_after, owed_of, published_after, published_events, times_begun, times_committed, turn_after, turn_events, Reply, Op, Commit, Turn, Committed}

pub record Summary : Type 0 where
  pub events : List Event
  pub batches : ℕ
  pub binding : SubName → Option Binding
  pub turn : ℕ → List Event
  pub handled : SubName → List Event
  pub closed : SubName → Bool
  pub note : SubName → ℕ
  pub low : Token
  pub begun : ℕ → ℕ
  pub committed : ℕ → ℕ

-- of a history with its newest entry first
abbrev pub summary : List Entry → Summary
summary history =
    record {
      events = published_events history;
      batches = batch_count history;
      binding = λ s. binding_of history s;
      turn = λ k. turn_events history k;
      handled = λ s. handled_events history s;
      closed = λ s. is_closed history s;
      note = λ s. last_note history s;
      low = low_told history;
      begun = λ k. times_begun history k;
      committed = λ k. times_committed history k;
    }

-- after one more entry
abbrev pub after : Summary → Op → Reply → Summary
after t op reply =
    record {
      events = published_after t.events op reply;
      batches = batches_after t.batches op reply;
      binding = λ s. binding_after s (t.binding s) t.batches op reply;
      turn = λ k. turn_after k (t.turn k) reply;
      handled = λ s. handled_after s t.turn (t.handled s) op reply;
      closed = λ s. closed_after s (t.closed s) op reply;
      note = λ s. note_after s (t.note s) op reply;
      low = low_after t.low reply;
      begun = λ k. begun_after k (t.begun k) reply;
      committed = λ k. committed_after k (t.committed k) op reply;
    }

-- the first entry is the newest
pub summary-after : (e : Entry) (before : List Entry) → summary (e ∷ before) ≡ after (summary before) e.op e.reply
summary-after e before = refl

abbrev pub owed : Summary → SubName → List Event
owed t s = owed_of t.events (t.binding s)

-- what the reply of a legal step promises: a turn goes on where what was handled ends, and what is
-- committed was begun once and is open
abbrev pub Promise : Summary → Op → Reply → Type 0
Promise t op (Turn s activation turn events note) =
    (1 ≤ length events) × (length events ≤ TURN_EVENTS)
    × (events ≡ take (length events) (drop (length (t.handled s)) (owed t s)))
    × (note ≡ t.note s) × (t.begun turn ≡ 0)
Promise t (Commit grain activation turn note) (Committed s token) = (t.begun turn ≡ 1) × (t.committed turn ≡ 0) × (t.closed s ≡ false)
Promise t op reply = Unit {0}
