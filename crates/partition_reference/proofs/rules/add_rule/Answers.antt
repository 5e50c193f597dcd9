use Rattle.partition_reference.proofs.Prelude.{◌≡◌, ◌<◌, ◌≤◌, true, false, length, sym, ap, arith, ◌∙◌, on-error}
use Rattle.partition_reference.proofs.RulesLemmas.{is_among, add_rule-there, add_rule-full, add_rule-done, add_rule-takes_memory}
use Rattle.partition_reference.proofs.rules.add_rule.Goals as goal

pub returns-then-has_rule-clause-performs : goal.returns-then-has_rule-clause-performs
returns-then-has_rule-clause-performs c =
    let there : is_among c.args.kind c.args.namespace c.args.p.now.rules ≡ true =
    ap (is_among c.args.kind c.args.namespace) (sym c.as_slice-rules.ensures) ∙ sym c.has_rule.ensures ∙ c.if-has_rule.true
    in
    add_rule-there c.args.p.now c.args.kind c.args.namespace there

pub returns-then-rules-p-clause-performs : goal.returns-then-rules-p-clause-performs
returns-then-rules-p-clause-performs c =
    let p = c.args.p.now in
    let new : is_among c.args.kind c.args.namespace p.rules ≡ false =
    ap (is_among c.args.kind c.args.namespace) (sym c.as_slice-rules.ensures) ∙ sym c.has_rule.ensures ∙ c.if-has_rule.false
    in
    let full : p.limits.rules ≤ length p.rules = omega (arith, ap length c.as_slice-rules.ensures, c.if-rules-p.true) in
    add_rule-full p c.args.kind c.args.namespace new full

pub returns-in_err-push-clause-memory : goal.returns-in_err-push-clause-memory
returns-in_err-push-clause-memory c =
    let p = c.args.p.now in
    let new : is_among c.args.kind c.args.namespace p.rules ≡ false =
    ap (is_among c.args.kind c.args.namespace) (sym c.as_slice-rules.ensures) ∙ sym c.has_rule.ensures ∙ c.if-has_rule.false
    in
    let fits : length p.rules < p.limits.rules = omega (arith, ap length c.as_slice-rules.ensures, c.if-rules-p.false) in
    on-error c.from_residual.result (add_rule-takes_memory p c.args.kind c.args.namespace new fits)

pub returns-clause-performs : goal.returns-clause-performs
returns-clause-performs c =
    let p = c.args.p.now in
    let new : is_among c.args.kind c.args.namespace p.rules ≡ false =
    ap (is_among c.args.kind c.args.namespace) (sym c.as_slice-rules.ensures) ∙ sym c.has_rule.ensures ∙ c.if-has_rule.false
    in
    let fits : length p.rules < p.limits.rules = omega (arith, ap length c.as_slice-rules.ensures, c.if-rules-p.false) in
    add_rule-done p c.args.kind c.args.namespace c.push.new.self new fits c.in_ok-push.ensures
