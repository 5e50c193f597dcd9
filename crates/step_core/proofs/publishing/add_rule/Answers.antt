use Rattle.step_core.proofs.Prelude.{RuleAdded, ◌≡◌, ◌∙◌, ap, sym, subst, on-error, Reply, PlainPartition, PlainTable}
use Rattle.step_core.specs.Assembly.{IsAssembled}
use Rattle.step_core.specs.PlainOf.{plain_of}
use Rattle.step_core.proofs.RuleOps.{rule-assembled, rule-memory, rule-performs}
use Rattle.step_core.proofs.publishing.add_rule.Goals as goal

pub returns-in_err-added-clause-memory : goal.returns-in_err-added-clause-memory
returns-in_err-added-clause-memory c =
    on-error c.from_residual.result (rule-memory c.args.parts.now c.args.kind c.args.namespace c.batches-from.result c.requires.assembled c.batches-from.ensures.count c.in_err-added.ensures.memory)

pub returns-clause-assembled : goal.returns-clause-assembled
returns-clause-assembled c =
    let parts = c.args.parts.now in
    let new : c.add_rule.new.self ≡ _ = ap (λ (stepped : PlainTable × RuleAdded). stepped.0) c.in_ok-added.ensures.performs in
    subst (λ (subs : PlainTable). IsAssembled (record parts { subs = subs })) (sym new)
    (rule-assembled parts c.args.kind c.args.namespace c.batches-from.result c.requires.assembled)

pub returns-clause-performs : goal.returns-clause-performs
returns-clause-performs c =
    let parts = c.args.parts.now in
    ap {B = PlainPartition × Reply} (λ told. (plain_of (record parts { subs = c.add_rule.new.self }), told)) c.told_of_rule.ensures.reply
    ∙ rule-performs parts c.args.kind c.args.namespace c.batches-from.result c.add_rule.new.self c.in_ok-added.added c.requires.assembled c.batches-from.ensures.count c.in_ok-added.ensures.performs
