-- Blocks that leave a cache.
use Rattle.pulling_agent.proofs.Prelude.{PlainCache, without_front, ◌≡◌, ◌∙◌, ap, refl, ℕ, ◌+◌, ◌*◌, ◌<◌, ◌≤◌, length, drop, length-drop, add-zero, arith, drop-drop}
use Rattle.stream_ident.specs.declared.limits.TheConstants.{BLOCK_EVENTS}
use Rattle.pulling_agent.specs.Agent.{without_blocks}

pub no_blocks : (c : PlainCache) → c ≡ without_blocks 0 c
no_blocks c = rw (add-zero c.low) refl

-- a first block is left
pub one_left : (n blocks : ℕ) (now old : PlainCache) → now ≡ without_blocks n old → n < blocks → BLOCK_EVENTS * blocks ≤ length old.events → BLOCK_EVENTS ≤ length now.events
one_left n blocks now old is more there =
    let count : length now.events ≡ length (drop (BLOCK_EVENTS * n) old.events) = ap (λ (c : PlainCache). length c.events) is in
    omega (arith, count, length-drop (BLOCK_EVENTS * n) old.events)

-- one block more
pub one_gone : (n : ℕ) (next now old : PlainCache) → next ≡ without_front now → now ≡ without_blocks n old → next ≡ without_blocks (n + 1) old
one_gone n next now old gone is =
    let more : BLOCK_EVENTS * n + BLOCK_EVENTS ≡ BLOCK_EVENTS * (n + 1) = omega arith in
    let low : (old.low + BLOCK_EVENTS * n) + BLOCK_EVENTS ≡ old.low + BLOCK_EVENTS * (n + 1) = omega arith in
    let events : drop BLOCK_EVENTS (drop (BLOCK_EVENTS * n) old.events) ≡ drop (BLOCK_EVENTS * (n + 1)) old.events = drop-drop BLOCK_EVENTS (BLOCK_EVENTS * n) old.events ∙ ap (λ k. drop k old.events) more in
    gone ∙ (ap without_front is
    ∙ (ap {B = PlainCache} (λ low. record { events = drop BLOCK_EVENTS (drop (BLOCK_EVENTS * n) old.events); low = low; blocks = old.blocks }) low
    ∙ ap {B = PlainCache} (λ events. record { events = events; low = old.low + BLOCK_EVENTS * (n + 1); blocks = old.blocks }) events))
