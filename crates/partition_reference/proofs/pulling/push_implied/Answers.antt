use Rattle.partition_reference.proofs.Prelude.{◌∙◌, ap, sym, List, fold, flat_map, added-more, front-of-front, added, Event, SubName, implied, Subscription}
use Rattle.partition_reference.proofs.pulling.push_implied.Goals as goal

pub returns-in_err-push_for_event-clause-front : goal.returns-in_err-push_for_event-clause-front
returns-in_err-push_for_event-clause-front c =
    front-of-front c.args.subs.now.items c.loop-event.subs.items c.push_for_event.new.subs.items c.loop-event.invariant.front c.push_for_event.ensures.front

pub loop-event-preserved : goal.loop-event-preserved
loop-event-preserved c =
    let made : Event → List (SubName × Subscription) = λ event. flat_map (implied c.args.position event) c.args.rules.now in
    record {
      all =
          c.in_ok-push_for_event.ensures.all
          ∙ ap (λ subs. fold added subs (made c.event-item.result)) c.loop-event.invariant.all
          ∙ sym (added-more made c.args.subs.now.items c.args.events.now c.loop-event.event-index c.event-item.result c.loop-event-test.true c.event-item.is);
      front = front-of-front c.args.subs.now.items c.loop-event.subs.items c.push_for_event.new.subs.items c.loop-event.invariant.front c.push_for_event.ensures.front;
    }
