use Rattle.step_core.proofs.Prelude.{PlainQueue, Appended, ◌≡◌, ◌∙◌, ap, sym, subst, on-error, Reply, PlainPartition}
use Rattle.step_core.specs.Assembly.{IsAssembled}
use Rattle.step_core.specs.PlainOf.{plain_of}
use Rattle.step_core.proofs.Shared.{high-end}
use Rattle.step_core.proofs.PublishOps.{append-assembled, append-memory, append-performs}
use Rattle.step_core.proofs.publishing.publish.Goals as goal

pub returns-in_err-appended-clause-memory : goal.returns-in_err-appended-clause-memory
returns-in_err-appended-clause-memory c =
    on-error c.from_residual.result (append-memory c.args.parts.now c.args.stream.now c.args.payloads.now c.requires.assembled c.in_err-appended.ensures.memory)

pub returns-clause-assembled : goal.returns-clause-assembled
returns-clause-assembled c =
    let parts = c.args.parts.now in
    let new : c.append.new.self ≡ _ = ap (λ (stepped : PlainQueue × Appended). stepped.0) c.in_ok-appended.ensures.performs in
    subst (λ (queue : PlainQueue). IsAssembled (record parts { queue = queue })) (sym new)
    (append-assembled parts c.args.stream.now c.args.payloads.now (high-end parts c.requires) c.requires.assembled)

pub returns-clause-performs : goal.returns-clause-performs
returns-clause-performs c =
    let parts = c.args.parts.now in
    ap {B = PlainPartition × Reply} (λ told. (plain_of (record parts { queue = c.append.new.self }), told)) c.told_of_batch.ensures.reply
    ∙ append-performs parts c.args.stream.now c.args.payloads.now c.append.new.self c.in_ok-appended.appended c.requires.assembled c.in_ok-appended.ensures.performs
