use Rattle.std.proofs.Common.{◌≡◌, length, arith, length-drop}
use Rattle.queue_cache.specs.Ring.{joined}
use Rattle.queue_cache.proofs.RingLemmas.{ring_of, plain_held, held_rotated}
use Rattle.queue_cache.proofs.cache.QueueCache.drop_front.Goals as goal

pub invariant_of-self : goal.invariant_of-self
invariant_of-self c =
    let blocks = c.self.inside.ring.items in
    let full = rw (← c.self.view_is) at c.requires in
    let counted : c.self.inside.len ≡ length (joined blocks) = c.self.invariant.counted in
    rw c.rotate.ensures
    (ring_of _ _ _ _ _ _ (held_rotated blocks _ _ _ c.self.invariant) c.self.invariant.full (omega (arith, counted, length-drop 64 (joined blocks))) (omega (arith, counted, full, c.self.invariant.positions)))

pub returns : goal.returns
returns c =
    rw (c.rotate.ensures, ← c.self.view_is) (plain_held _ _ _ _ (held_rotated c.self.inside.ring.items _ _ _ c.self.invariant))
