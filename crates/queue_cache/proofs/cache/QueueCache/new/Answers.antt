use Rattle.std.proofs.Common.{refl, arith}
use Rattle.queue_cache.proofs.RingLemmas.{ring_of, plain_held, held_empty}
use Rattle.queue_cache.proofs.cache.QueueCache.new.Goals as goal

pub invariant_of-result : goal.invariant_of-result
invariant_of-result c =
    let n = c.args.blocks in
    rw c.in_ok-empty_ring.ensures (ring_of _ n _ _ _ _ (held_empty n c.requires.some c.requires.few) refl refl (omega arith))

pub returns : goal.returns
returns c =
    let n = c.args.blocks in
    rw c.in_ok-empty_ring.ensures (plain_held _ n _ c.args.at (held_empty n c.requires.some c.requires.few))
