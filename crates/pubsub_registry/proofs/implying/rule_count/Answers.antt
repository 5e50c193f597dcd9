use Rattle.pubsub_registry.proofs.Prelude.{◌≡◌, ◌<◌, ◌∙◌, ap, length, get_or, arith, sum_by_more, sum_by_more_le, no_event, Event}
use Rattle.pubsub_registry.proofs.RuleLemmas.{on}
use Rattle.pubsub_registry.proofs.implying.rule_count.Goals as goal

pub overflow_add-count : goal.overflow_add-count
overflow_add-count c =
    let events = c.args.events.now in
    let within : c.loop-index.index < length events = omega (arith, c.loop-index-test.true, c.len-index-end.ensures) in
    let here : length c.rules_on-here.result.now ≡ length (on (get_or events c.loop-index.index no_event).stream.namespace c.args.rules.now) =
    ap length c.rules_on-here.ensures ∙ ap (λ (event : Event). length (on event.stream.namespace c.args.rules.now)) c.at-event.ensures in
    omega (arith, c.requires, here, c.loop-index.invariant, sum_by_more_le (λ (event : Event). length (on event.stream.namespace c.args.rules.now)) events c.loop-index.index no_event within)

pub loop-index-preserved : goal.loop-index-preserved
loop-index-preserved c =
    let events = c.args.events.now in
    let within : c.loop-index.index < length events = omega (arith, c.loop-index-test.true, c.len-index-end.ensures) in
    let here : length c.rules_on-here.result.now ≡ length (on (get_or events c.loop-index.index no_event).stream.namespace c.args.rules.now) =
    ap length c.rules_on-here.ensures ∙ ap (λ (event : Event). length (on event.stream.namespace c.args.rules.now)) c.at-event.ensures in
    omega (arith, here, c.loop-index.invariant, sum_by_more (λ (event : Event). length (on event.stream.namespace c.args.rules.now)) events c.loop-index.index no_event within)
