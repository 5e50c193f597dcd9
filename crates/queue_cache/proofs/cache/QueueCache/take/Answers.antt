use Rattle.std.proofs.Common.{◌≡◌, ◌+◌, ◌∙◌, ap, arith, length, take, length-append, length-take}
use Rattle.queue_cache.specs.Cache.{PlainCache}
use Rattle.queue_cache.proofs.cache.QueueCache.take.Goals as goal

-- how many events it has come to have
reached : (c : goal.After-push-arg-in-loop-place-1) → length c.loop-place.self.events ≡ length c.args.self.now.events + c.loop-place.place
reached c =
    ap (λ (cache : PlainCache). length cache.events) c.loop-place.invariant
    ∙ omega (
      arith,
      length-append c.args.self.now.events (take c.loop-place.place c.args.events.now),
      length-take c.loop-place.place c.args.events.now,
      c.loop-place.auto.place-end,
      c.len-place-end.ensures,
    )

pub push-requires-clause-room : goal.push-requires-clause-room
push-requires-clause-room c =
    omega (arith, reached c, ap (λ (cache : PlainCache). cache.blocks) c.loop-place.invariant, c.requires.room, c.loop-place-test.true, c.len-place-end.ensures)

pub push-requires-clause-positions : goal.push-requires-clause-positions
push-requires-clause-positions c =
    omega (arith, reached c, ap (λ (cache : PlainCache). cache.low) c.loop-place.invariant, c.requires.positions, c.loop-place-test.true, c.len-place-end.ensures)
