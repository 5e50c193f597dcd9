use Rattle.std.proofs.Common.{refl, arith, length}
use Rattle.queue_cache.proofs.RingLemmas.{ring_of, plain_held, held_empty}
use Rattle.queue_cache.proofs.cache.QueueCache.reset.Goals as goal

pub invariant_of-self : goal.invariant_of-self
invariant_of-self c =
    let n = length c.self.inside.ring.items in
    rw c.clear_blocks.ensures (ring_of _ n _ _ _ _ (held_empty n c.self.invariant.some c.self.invariant.few) c.self.invariant.full refl (omega arith))

pub returns : goal.returns
returns c =
    let n = length c.self.inside.ring.items in
    rw (c.clear_blocks.ensures, ← c.self.view_is) (plain_held _ n _ c.args.at (held_empty n c.self.invariant.some c.self.invariant.few))
