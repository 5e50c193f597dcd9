use Rattle.std.proofs.Common.{◌≡◌, ◌/◌, ◌++◌, ◌∷◌, get_or, set, [], length, arith, length-append}
use Rattle.queue_cache.specs.Ring.{joined}
use Rattle.queue_cache.proofs.RingLemmas.{Holds, ring_of, plain_held, held_extended, length-next}
use Rattle.queue_cache.proofs.cache.QueueCache.push.Goals as goal

pub push_to_block-requires-clause-room : goal.push_to_block-requires-clause-room
push_to_block-requires-clause-room c =
    let blocks = c.self.inside.ring.items in
    let room = rw (← c.self.view_is) at c.requires.room in
    let counted : c.self.inside.len ≡ length (joined blocks) = c.self.invariant.counted in
    omega (arith, room, counted, length-next blocks _ _ _ c.self.invariant (omega (arith, room, counted)))

held : (c : goal.After-self-1)
    → Holds (set c.self.inside.ring.items (c.self.inside.len / 64) (get_or c.self.inside.ring.items (c.self.inside.len / 64) [] ++ c.args.header.now ∷ []))
    (length c.self.inside.ring.items)
    (joined c.self.inside.ring.items ++ c.args.header.now ∷ [])
held c =
    let blocks = c.self.inside.ring.items in
    let room = rw (← c.self.view_is) at c.requires.room in
    let counted : c.self.inside.len ≡ length (joined blocks) = c.self.invariant.counted in
    held_extended blocks _ _ _ c.self.invariant (c.args.header.now ∷ []) (omega arith) (omega (arith, counted)) (omega (arith, room, counted, c.self.invariant.fits))

pub invariant_of-self : goal.invariant_of-self
invariant_of-self c =
    let blocks = c.self.inside.ring.items in
    let counted : c.self.inside.len ≡ length (joined blocks) = c.self.invariant.counted in
    let positions = rw (← c.self.view_is) at c.requires.positions in
    rw c.push_to_block.ensures
    (ring_of _ _ _ _ _ _ (held c) c.self.invariant.full (omega (arith, counted, length-append (joined blocks) (c.args.header.now ∷ []))) (omega (arith, counted, positions)))

pub returns : goal.returns
returns c = rw (c.push_to_block.ensures, ← c.self.view_is) (plain_held _ _ _ c.self.inside.low (held c))
