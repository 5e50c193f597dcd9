use Rattle.step_core.proofs.Prelude.{sym, ap, ◌∙◌, Reply, PlainPartition}
use Rattle.stream_model.specs.Step.{step}
use Rattle.step_core.specs.PlainOf.{plain_of}
use Rattle.step_core.proofs.OutcomeLemmas.{none-outside, told-as}
use Rattle.step_core.proofs.stepping.tell.Goals as goal

pub returns-in-Begin-clause-performs : goal.returns-in-Begin-clause-performs
unfolding step
returns-in-Begin-clause-performs c = c.begin.ensures.performs ∙ ap (step (plain_of c.args.parts.now)) (sym c.in-Begin.is)

pub returns-in-Unsubscribe-clause-performs : goal.returns-in-Unsubscribe-clause-performs
unfolding step
returns-in-Unsubscribe-clause-performs c =
    told-as _ c.unsubscribe.result _ _ _ c.unsubscribe.ensures.performs c.unsubscribe.ensures.told (ap (step (plain_of c.args.parts.now)) (sym c.in-Unsubscribe.is))

pub returns-in-Unsubscribe-clause-of_log : goal.returns-in-Unsubscribe-clause-of_log
returns-in-Unsubscribe-clause-of_log c = none-outside _ c.unsubscribe.result c.unsubscribe.ensures.told

pub returns-in-Retry-clause-performs : goal.returns-in-Retry-clause-performs
unfolding step
returns-in-Retry-clause-performs c =
    told-as _ c.retry.result _ _ _ c.retry.ensures.performs c.retry.ensures.told (ap (step (plain_of c.args.parts.now)) (sym c.in-Retry.is))

pub returns-in-Retry-clause-of_log : goal.returns-in-Retry-clause-of_log
returns-in-Retry-clause-of_log c = none-outside _ c.retry.result c.retry.ensures.told

pub returns-in-Ack-clause-performs : goal.returns-in-Ack-clause-performs
unfolding step
returns-in-Ack-clause-performs c =
    told-as _ c.ack.result _ _ _ c.ack.ensures.performs c.ack.ensures.told (ap (step (plain_of c.args.parts.now)) (sym c.in-Ack.is))

pub returns-in-Ack-clause-of_log : goal.returns-in-Ack-clause-of_log
returns-in-Ack-clause-of_log c = none-outside _ c.ack.result c.ack.ensures.told

pub returns-in-Purge-clause-performs : goal.returns-in-Purge-clause-performs
unfolding step
returns-in-Purge-clause-performs c =
    told-as _ c.purge.result _ _ _ c.purge.ensures.performs c.purge.ensures.told (ap (step (plain_of c.args.parts.now)) (sym c.in-Purge.is))

pub returns-in-Purge-clause-of_log : goal.returns-in-Purge-clause-of_log
returns-in-Purge-clause-of_log c = none-outside _ c.purge.result c.purge.ensures.told

pub returns-in-Deactivate-clause-performs : goal.returns-in-Deactivate-clause-performs
unfolding step
returns-in-Deactivate-clause-performs c =
    told-as _ c.deactivate.result _ _ _ c.deactivate.ensures.performs c.deactivate.ensures.told (ap (step (plain_of c.args.parts.now)) (sym c.in-Deactivate.is))

pub returns-in-Deactivate-clause-of_log : goal.returns-in-Deactivate-clause-of_log
returns-in-Deactivate-clause-of_log c = none-outside _ c.deactivate.result c.deactivate.ensures.told

pub returns-in-Move-clause-performs : goal.returns-in-Move-clause-performs
unfolding step
returns-in-Move-clause-performs c =
    told-as _ c.move_queue.result _ _ _ c.move_queue.ensures.performs c.move_queue.ensures.told (ap (step (plain_of c.args.parts.now)) (sym c.in-Move.is))

pub returns-in-Move-clause-of_log : goal.returns-in-Move-clause-of_log
returns-in-Move-clause-of_log c = none-outside _ c.move_queue.result c.move_queue.ensures.told

pub returns-in-Ready-clause-performs : goal.returns-in-Ready-clause-performs
unfolding step
returns-in-Ready-clause-performs c =
    told-as _ c.ready.result _ _ _ (ap {B = PlainPartition × Reply} (λ told. (plain_of c.args.parts.now, told)) c.ready.ensures.reply) c.ready.ensures.told
    (ap (step (plain_of c.args.parts.now)) (sym c.in-Ready.is))

pub returns-in-Ready-clause-of_log : goal.returns-in-Ready-clause-of_log
returns-in-Ready-clause-of_log c = none-outside _ c.ready.result c.ready.ensures.told

pub returns-in-Due-clause-performs : goal.returns-in-Due-clause-performs
unfolding step
returns-in-Due-clause-performs c =
    told-as _ c.due.result _ _ _ (ap {B = PlainPartition × Reply} (λ told. (plain_of c.args.parts.now, told)) c.due.ensures.reply) c.due.ensures.told
    (ap (step (plain_of c.args.parts.now)) (sym c.in-Due.is))

pub returns-in-Due-clause-of_log : goal.returns-in-Due-clause-of_log
returns-in-Due-clause-of_log c = none-outside _ c.due.result c.due.ensures.told

pub returns-in-Quiet-clause-performs : goal.returns-in-Quiet-clause-performs
unfolding step
returns-in-Quiet-clause-performs c =
    told-as _ c.quiet.result _ _ _ (ap {B = PlainPartition × Reply} (λ told. (plain_of c.args.parts.now, told)) c.quiet.ensures.reply) c.quiet.ensures.told
    (ap (step (plain_of c.args.parts.now)) (sym c.in-Quiet.is))

pub returns-in-Quiet-clause-of_log : goal.returns-in-Quiet-clause-of_log
returns-in-Quiet-clause-of_log c = none-outside _ c.quiet.result c.quiet.ensures.told
