use Rattle.pubsub_registry.proofs.Prelude.{◌≡◌, ◌+◌, ◌<◌, ◌∙◌, ap, sym, subst, length, fold, rules, arith, flat_map, front-of-front, no_event, added}
use Rattle.pubsub_registry.specs.Implying.{implied, made, names_with}
use Rattle.pubsub_registry.proofs.ImpliedLists.{length-front, more-at}
use Rattle.pubsub_registry.proofs.ImpliedNames.{implied-on}
use Rattle.pubsub_registry.proofs.ImpliedSteps.{event-more}
use Rattle.pubsub_registry.proofs.implying.push_all.Goals as goal

pub push_for_event-requires : goal.push_for_event-requires
push_for_event-requires c =
    let more = event-more c.args.rules.now c.rules_on-rules.result.now c.args.subscriptions.now c.loop-index.subscriptions c.args.events.now c.loop-index.index c.at-event.result (omega (arith, c.loop-index-test.true, c.len-index-end.ensures)) c.at-event.ensures c.loop-index.invariant.all c.rules_on-rules.ensures in
    omega (arith, c.requires, ap length more, length-front (λ event. flat_map (implied event) c.args.rules.now) c.args.subscriptions.now c.args.events.now (c.loop-index.index + 1))

pub loop-index-preserved : goal.loop-index-preserved
loop-index-preserved c =
    record {
      all =
          c.in_ok-push_for_event.ensures.all
          ∙ event-more c.args.rules.now c.rules_on-rules.result.now c.args.subscriptions.now c.loop-index.subscriptions c.args.events.now c.loop-index.index c.at-event.result (omega (arith, c.loop-index-test.true, c.len-index-end.ensures)) c.at-event.ensures c.loop-index.invariant.all c.rules_on-rules.ensures;
      front = front-of-front c.args.subscriptions.now c.loop-index.subscriptions c.push_for_event.new.subscriptions c.loop-index.invariant.front c.push_for_event.ensures.front;
    }

pub returns-in_err-push_for_event-clause-memory : goal.returns-in_err-push_for_event-clause-memory
returns-in_err-push_for_event-clause-memory c =
    let event = c.at-event.result in
    let same : flat_map (made event) c.rules_on-rules.result.now ≡ flat_map (implied event) c.args.rules.now = ap (flat_map (made event)) c.rules_on-rules.ensures ∙ sym (implied-on event c.args.rules.now) in
    let more : length c.args.subscriptions.now < length (names_with c.args.rules.now c.args.subscriptions.now c.args.events.now) =
    more-at (λ event. flat_map (implied event) c.args.rules.now) c.args.subscriptions.now c.loop-index.subscriptions c.args.events.now c.loop-index.index no_event event (omega (arith, c.loop-index-test.true, c.len-index-end.ensures)) c.at-event.ensures c.loop-index.invariant.all
    (subst (λ entries. length c.loop-index.subscriptions < length (fold added c.loop-index.subscriptions entries)) same c.in_err-push_for_event.ensures.memory) in
    search (rules, more)
