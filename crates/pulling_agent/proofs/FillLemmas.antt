-- Events of a log that a cache takes in.
use Rattle.pulling_agent.proofs.Prelude.{PlainQueue, between, high, room, with_events, ◌≡◌, ◌∙◌, ap, ℕ, ◌+◌, ◌-◌, ◌*◌, ◌/◌, ◌≤◌, min, map, length, length-drop, arith}
use Rattle.queue_mapper.specs.Place.{bare}
use Rattle.stream_ident.specs.declared.limits.TheConstants.{BLOCK_EVENTS}
use Rattle.pulling_agent.specs.Agent.{CanTake, PlainAgent, fill, fill_up, take_next, take_planned, without_blocks}

-- what was planned is taken whole
pub planned : (a : PlainAgent) (q : PlainQueue) (drops count : ℕ) → length a.cache.events ≤ BLOCK_EVENTS * a.cache.blocks → CanTake a q drops count → take_next a drops q count ≡ take_planned a drops q count
planned a q drops count fits can =
    let whole : min drops (length a.cache.events / BLOCK_EVENTS) ≡ drops = omega (arith, can.blocks) in
    let left = length-drop (BLOCK_EVENTS * drops) a.cache.events in
    let kept = without_blocks drops a.cache in
    let top : high kept ≡ high a.cache = omega (arith, can.blocks, left) in
    let all : min (min count (room kept)) (length q.events - high kept) ≡ count = omega (arith, can.blocks, can.room, can.there, fits, left, top) in
    ap {B = PlainAgent × ℕ} (λ n. fill_up a (without_blocks n a.cache) q count) whole
    ∙ ap {B = PlainAgent × ℕ} (λ n. fill a kept q n) all
    ∙ ap {B = PlainAgent × ℕ} (λ h. (record a { cache = with_events kept (map bare (between q h (h + count))) }, count)) top
