-- How the events of a cache lie in the blocks of its ring.
use Rattle.std.specs.Prelude.{◌≡◌, ℕ, zero, suc, ◌+◌, ◌*◌, ◌^◌, ◌<◌, ◌≤◌, List, [], ◌∷◌, length, take, drop}
use Rattle.std.specs.List.{flat_map}
use Rattle.stream_ident.specs.declared.event.Event.{Event}
use Rattle.stream_ident.specs.declared.limits.TheConstants.{BLOCK_EVENTS, MOST_BLOCKS}
use Rattle.queue_cache.specs.Cache.{PlainCache}

-- the events of the blocks, one block after another
abbrev pub joined : List (List Event) → List Event
joined blocks = flat_map (λ block. block) blocks

-- events in this many blocks: each but the last with events is full, and those behind it are empty
abbrev pub pieces : ℕ → List Event → List (List Event)
pieces zero events = []
pieces (suc n) events = take BLOCK_EVENTS events ∷ pieces n (drop BLOCK_EVENTS events)

-- the cache of a ring of blocks
abbrev pub plain_of : List (List Event) → ℕ → PlainCache
plain_of blocks low = record { events = joined blocks; low = low; blocks = length blocks }

-- the blocks of a ring, with how many blocks it can hold, the position of the first event and the number of events
pub record IsRing (blocks : List (List Event)) (capacity low len : ℕ) : Type 0 where
  pub full : capacity ≡ length blocks
  pub some : 1 ≤ length blocks
  pub few : length blocks ≤ MOST_BLOCKS
  pub counted : len ≡ length (joined blocks)
  pub fits : len ≤ BLOCK_EVENTS * length blocks
  pub positions : low + len < 2 ^ 64
  pub packed : blocks ≡ pieces (length blocks) (joined blocks)
