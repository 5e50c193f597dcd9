use Rattle.partition_reference.proofs.Prelude.{◌≡◌, ◌+◌, ℕ, List, ap, length, take, arith, flat_map, added-more, Event, SubName, implied, subs_with, Subscription}
use Rattle.partition_reference.proofs.pulling.count_new.Goals as goal

pub loop-index-preserved : goal.loop-index-preserved
loop-index-preserved c = record { count = counted; bound = omega arith }
  where
    counted : (position : ℕ) → length (subs_with c.args.rules.now position c.args.subs.now (take (c.loop-index.index + 1) c.args.events.now)) ≡ length c.args.subs.now + (c.loop-index.count + c.count_for_event-count.result)
    counted position =
        let made : Event → List (SubName × Subscription) = λ event. flat_map (implied position event) c.args.rules.now in
        let more = ap length (added-more made c.args.subs.now c.args.events.now c.loop-index.index c.index-events-index.result c.loop-index-test.true c.index-events-index.is) in
        omega (arith, more, c.count_for_event-count.ensures.count position, c.loop-index.invariant.count position)
