-- Subscriptions for which a cache has nothing, and which catch up one after another.
use Rattle.std.specs.Prelude.{◌≡◌, ℕ, zero, suc, ◌<◌, ◌≤◌, ◌+◌, List, true, false, length, slice_index, None, Some}
use Rattle.stream_ident.specs.declared.ident.StreamId.{StreamId}
use Rattle.stream_ident.specs.SubName.{sub_lt}
use Rattle.stream_ident.specs.Words.{past}
use Rattle.consumer_grain.specs.Subscriptions.{caught_up}
use Rattle.consumer_grain.specs.declared.sub_state.SubState.{SubState}
use Rattle.queue_cache.specs.Cache.{PlainCache, high}
use Rattle.cache_cursor.specs.Cursor.{next_in}
use Rattle.subscription_table.specs.Leaves.{due_after}
use Rattle.subscription_table.specs.LeavesOf.{leaves_of}
use Rattle.subscription_table.specs.Table.{PlainTable, name_at, registration_at, state_at, with_state}

-- it is open and due, its cursor stands between two positions, and it has handled nothing past the second
pub record IsBetween (s : SubState) (from high : ℕ) : Type 0 where
  pub is_open : s.live ≡ true
  pub due : s.resume < high
  pub reached : from ≤ s.cursor
  pub behind : s.cursor ≤ high
  pub handled : past s.handled ≤ high

-- a due subscription for which the cache has nothing, and which has handled nothing past the end of the cache
pub record IsIdle (cache : PlainCache) (s : SubState) (stream : StreamId) : Type 0 where
  pub between : IsBetween s cache.low (high cache)
  pub none : next_in cache s.cursor stream s.start ≡ None

-- the subscription with a number, which is idle, catches up
pub record CatchesUp (cache : PlainCache) (old new : PlainTable) (number : ℕ) : Type 0 where
  pub within : number < length old.registry.names
  pub idle : IsIdle cache (state_at old number) (registration_at old number).stream
  pub is : new ≡ with_state old number (caught_up (high cache) false (state_at old number))

-- of those that are due, it has the next name after that of another
pub record IsNextDue (high : ℕ) (t : PlainTable) (before number : ℕ) : Type 0 where
  pub next : due_after high (Some (name_at t before)) (leaves_of t.registry.names t.states) ≡ Some (name_at t number)
  pub past : sub_lt (name_at t before) (name_at t number) ≡ true

-- Subscriptions for which the cache has nothing catch up: the first, and then so many more, each the next due
-- one after the one before, up to the last.
abbrev pub CatchUp : PlainCache → PlainTable → PlainTable → ℕ → ℕ → ℕ → Type 0
CatchUp cache old new first zero last = (last ≡ first) × CatchesUp cache old new first
CatchUp cache old new first (suc more) last =
    (mid : PlainTable) × ((before : ℕ) × (CatchUp cache old mid first more before × (IsNextDue (high cache) mid before last × CatchesUp cache mid new last)))

-- the same of those at so many ranks from one on
abbrev pub CatchUpAt : PlainCache → List ℕ → PlainTable → PlainTable → ℕ → ℕ → Type 0
CatchUpAt cache order old new first zero = new ≡ old
CatchUpAt cache order old new first (suc more) = CatchUp cache old new (slice_index order first) more (slice_index order (first + more))
