use Rattle.partition_reference.proofs.Prelude.{◌∙◌, sym, List, flat_map, Event, SubName, implied, Subscription}
use Rattle.partition_reference.proofs.ImpliedNames.{has-here, has-later}
use Rattle.partition_reference.proofs.pulling.makes.Goals as goal

pub returns-then-makes_of_event : goal.returns-then-makes_of_event
returns-then-makes_of_event c = λ position.
    let made : Event → List (SubName × Subscription) = λ event. flat_map (implied position event) c.args.rules.now in
    sym (has-here made c.args.name.now c.args.events.now c.loop-event.event-index c.event-item.result c.loop-event-test.true c.event-item.is (sym (c.makes_of_event.ensures position) ∙ c.if-makes_of_event.true)) ∙ c.loop-event.invariant position

pub loop-event-preserved : goal.loop-event-preserved
loop-event-preserved c = λ position.
    let made : Event → List (SubName × Subscription) = λ event. flat_map (implied position event) c.args.rules.now in
    has-later made c.args.name.now c.args.events.now c.loop-event.event-index c.event-item.result c.loop-event-test.true c.event-item.is (sym (c.makes_of_event.ensures position) ∙ c.if-makes_of_event.false) ∙ c.loop-event.invariant position
