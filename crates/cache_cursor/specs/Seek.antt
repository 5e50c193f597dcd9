-- Where the first event that passes stands among others.
use Rattle.std.specs.Prelude.{◌≡◌, ◌≢◌, ℕ, ◌<◌, ◌≤◌, Bool, true, false, List, length, slice_index_or}
use Rattle.std.specs.Int.{bit_at}
use Rattle.stream_ident.specs.declared.event.Event.{Event}
use Rattle.stream_ident.specs.Event.{no_event}

-- no event at a place from the first of these on and before the second passes
abbrev pub NoneBetween : (Event → Bool) → List Event → ℕ → ℕ → Type 0
NoneBetween passes events from to =
    (place : ℕ) → from ≤ place → place < to → place < length events → passes (slice_index_or events place no_event) ≡ false

-- the least place from one on whose event passes
pub record IsFirst (passes : Event → Bool) (events : List Event) (from place : ℕ) : Type 0 where
  pub reached : from ≤ place
  pub within : place < length events
  pub found : passes (slice_index_or events place no_event) ≡ true
  pub before : NoneBetween passes events from place

-- no bit of 64 from the first of these on and before the second is set
abbrev pub NoneMarked : ℕ → ℕ → ℕ → Type 0
NoneMarked marks from to = (place : ℕ) → from ≤ place → place < to → bit_at marks place ≢ 1

-- the least bit of 64 that is set, from one on
pub record IsNextMark (marks from place : ℕ) : Type 0 where
  pub reached : from ≤ place
  pub within : place < 64
  pub found : bit_at marks place ≡ 1
  pub before : NoneMarked marks from place
