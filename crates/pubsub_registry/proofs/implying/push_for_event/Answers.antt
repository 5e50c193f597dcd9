use Rattle.pubsub_registry.proofs.Prelude.{◌<◌, ap, length, fold, rules, arith, flat_map, added}
use Rattle.pubsub_registry.specs.Implying.{made}
use Rattle.pubsub_registry.proofs.ImpliedLists.{length-front, more-at}
use Rattle.pubsub_registry.proofs.implying.push_for_event.Goals as goal

pub push_by_rule-requires : goal.push_by_rule-requires
push_by_rule-requires c =
    omega (arith, c.requires, ap length c.loop-rule.invariant.all, length-front (made c.args.event.now) c.args.subscriptions.now c.args.rules.now c.loop-rule.rule-index)

pub returns-in_err-push_by_rule-clause-memory : goal.returns-in_err-push_by_rule-clause-memory
returns-in_err-push_by_rule-clause-memory c =
    let more : length c.args.subscriptions.now < length (fold added c.args.subscriptions.now (flat_map (made c.args.event.now) c.args.rules.now)) =
    more-at (made c.args.event.now) c.args.subscriptions.now c.loop-rule.subscriptions c.args.rules.now c.loop-rule.rule-index c.rule-item.result c.rule-item.result c.loop-rule-test.true c.rule-item.is c.loop-rule.invariant.all c.in_err-push_by_rule.ensures.memory in
    search (rules, more)
