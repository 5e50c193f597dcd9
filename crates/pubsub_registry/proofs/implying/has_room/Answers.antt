use Rattle.pubsub_registry.proofs.Prelude.{arith, le-leb}
use Rattle.pubsub_registry.proofs.ImpliedLists.{few-rule_count, most-names_with}
use Rattle.pubsub_registry.proofs.implying.has_room.Goals as goal

pub rule_count-requires : goal.rule_count-requires
rule_count-requires c = omega (arith, few-rule_count c.args.rules.now c.args.events.now c.requires.rules)

pub returns-then-rule_count-room : goal.returns-then-rule_count-room
returns-then-rule_count-room c =
    let most = most-names_with c.args.rules.now c.args.subscriptions.now c.args.events.now in
    let fits = c.if-rule_count-room.true in
    (λ _. omega (arith, most, fits, c.rule_count.ensures, c.len.ensures.len), λ _. le-leb _ _ fits)
