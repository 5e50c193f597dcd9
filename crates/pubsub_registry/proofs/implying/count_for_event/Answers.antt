use Rattle.pubsub_registry.proofs.Prelude.{◌≡◌, ◌∙◌, true, sym, ap, length, fold, arith, take_all, flat_map, added}
use Rattle.pubsub_registry.specs.Implying.{made, names_with}
use Rattle.pubsub_registry.proofs.ImpliedLists.{length-on}
use Rattle.pubsub_registry.proofs.ImpliedSteps.{event-last, one_if, step-counts}
use Rattle.pubsub_registry.proofs.implying.count_for_event.Goals as goal
use Rattle.pubsub_registry.proofs.implying.count_for_event.Goals.{then-is_new, else-is_new}

pub loop-index-preserved : goal.loop-index-preserved
loop-index-preserved c =
    let more = step-counts c.args.rules.now c.args.subscriptions.now c.args.earlier.now c.args.event.now c.rules_on-rules.result.now c.loop-index.index c.index-rules-index.result c.is_new.result
    c.rules_on-rules.ensures c.loop-index-test.true c.index-rules-index.is c.is_new.ensures in
    let counted = c.loop-index.invariant.count in
    elim c.if-is_new.branch [
      | then-is_new w ↦
          let one : one_if c.is_new.result ≡ 1 = ap one_if w.if-is_new.true in
          record { count = omega (arith, more, one, counted, w.count-is); bound = omega (arith, w.count-is) }
      | else-is_new w ↦
          let none : one_if c.is_new.result ≡ 0 = ap one_if w.if-is_new.false in
          record { count = omega (arith, more, none, counted, w.count-is); bound = omega (arith, w.count-is) }
    ]

pub returns-clause-count : goal.returns-clause-count
returns-clause-count c =
    let base = names_with c.args.rules.now c.args.subscriptions.now c.args.earlier.now in
    let all = take_all c.loop-index.index c.rules_on-rules.result.now c.loop-index-test.false in
    ap length (event-last c.args.rules.now c.args.subscriptions.now c.args.earlier.now c.args.event.now)
    ∙ ap (λ rules. length (fold added base (flat_map (made c.args.event.now) rules))) (sym (all ∙ c.rules_on-rules.ensures))
    ∙ c.loop-index.invariant.count

pub returns-clause-bound : goal.returns-clause-bound
returns-clause-bound c =
    let on_namespace = ap length c.rules_on-rules.ensures in
    omega (arith, on_namespace, length-on c.args.event.now.stream.namespace c.args.rules.now)
