use Rattle.partition_reference.proofs.Prelude.{sym, ap, ◌∙◌, performs-along, memory-along, Reply, PlainPartition}
use Rattle.stream_model.specs.Step.{step}
use Rattle.partition_reference.proofs.step_plain.Goals as goal

pub returns-in-Publish-clause-performs : goal.returns-in-Publish-clause-performs
unfolding step
returns-in-Publish-clause-performs c = performs-along c.args.p.now c.publish.new.p c.publish.result _ _ (ap (step c.args.p.now) (sym c.in-Publish.is)) c.publish.ensures.performs

pub returns-in-Publish-clause-memory : goal.returns-in-Publish-clause-memory
unfolding step
returns-in-Publish-clause-memory c = memory-along c.publish.result _ _ (ap (step c.args.p.now) (sym c.in-Publish.is)) c.publish.ensures.memory

pub returns-in-Subscribe-clause-performs : goal.returns-in-Subscribe-clause-performs
unfolding step
returns-in-Subscribe-clause-performs c = performs-along c.args.p.now c.subscribe.new.p c.subscribe.result _ _ (ap (step c.args.p.now) (sym c.in-Subscribe.is)) c.subscribe.ensures.performs

pub returns-in-Subscribe-clause-memory : goal.returns-in-Subscribe-clause-memory
unfolding step
returns-in-Subscribe-clause-memory c = memory-along c.subscribe.result _ _ (ap (step c.args.p.now) (sym c.in-Subscribe.is)) c.subscribe.ensures.memory

pub returns-in-Pull-clause-performs : goal.returns-in-Pull-clause-performs
unfolding step
returns-in-Pull-clause-performs c = performs-along c.args.p.now c.pull.new.p c.pull.result _ _ (ap (step c.args.p.now) (sym c.in-Pull.is)) c.pull.ensures.performs

pub returns-in-Pull-clause-memory : goal.returns-in-Pull-clause-memory
unfolding step
returns-in-Pull-clause-memory c = memory-along c.pull.result _ _ (ap (step c.args.p.now) (sym c.in-Pull.is)) c.pull.ensures.memory

pub returns-in-Deliver-clause-performs : goal.returns-in-Deliver-clause-performs
unfolding step
returns-in-Deliver-clause-performs c = performs-along c.args.p.now c.deliver.new.p c.deliver.result _ _ (ap (step c.args.p.now) (sym c.in-Deliver.is)) c.deliver.ensures.performs

pub returns-in-Deliver-clause-memory : goal.returns-in-Deliver-clause-memory
unfolding step
returns-in-Deliver-clause-memory c = memory-along c.deliver.result _ _ (ap (step c.args.p.now) (sym c.in-Deliver.is)) c.deliver.ensures.memory

pub returns-in-Commit-clause-performs : goal.returns-in-Commit-clause-performs
unfolding step
returns-in-Commit-clause-performs c = performs-along c.args.p.now c.commit.new.p c.commit.result _ _ (ap (step c.args.p.now) (sym c.in-Commit.is)) c.commit.ensures.performs

pub returns-in-Commit-clause-memory : goal.returns-in-Commit-clause-memory
unfolding step
returns-in-Commit-clause-memory c = memory-along c.commit.result _ _ (ap (step c.args.p.now) (sym c.in-Commit.is)) c.commit.ensures.memory

pub returns-in-Begin-clause-performs : goal.returns-in-Begin-clause-performs
unfolding step
returns-in-Begin-clause-performs c = c.begin.ensures ∙ ap (step c.args.p.now) (sym c.in-Begin.is)

pub returns-in-Retry-clause-performs : goal.returns-in-Retry-clause-performs
unfolding step
returns-in-Retry-clause-performs c = c.retry.ensures ∙ ap (step c.args.p.now) (sym c.in-Retry.is)

pub returns-in-Ack-clause-performs : goal.returns-in-Ack-clause-performs
unfolding step
returns-in-Ack-clause-performs c = c.ack.ensures ∙ ap (step c.args.p.now) (sym c.in-Ack.is)

pub returns-in-Purge-clause-performs : goal.returns-in-Purge-clause-performs
unfolding step
returns-in-Purge-clause-performs c = c.purge.ensures ∙ ap (step c.args.p.now) (sym c.in-Purge.is)

pub returns-in-Move-clause-performs : goal.returns-in-Move-clause-performs
unfolding step
returns-in-Move-clause-performs c = c.move_queue.ensures ∙ ap (step c.args.p.now) (sym c.in-Move.is)

pub returns-in-Ready-clause-performs : goal.returns-in-Ready-clause-performs
unfolding step
returns-in-Ready-clause-performs c =
    ap {B = PlainPartition × Reply} (λ told. (c.args.p.now, told)) c.ready.ensures ∙ ap (step c.args.p.now) (sym c.in-Ready.is)

pub returns-in-Due-clause-performs : goal.returns-in-Due-clause-performs
unfolding step
returns-in-Due-clause-performs c =
    ap {B = PlainPartition × Reply} (λ told. (c.args.p.now, told)) c.due.ensures ∙ ap (step c.args.p.now) (sym c.in-Due.is)

pub returns-in-Quiet-clause-performs : goal.returns-in-Quiet-clause-performs
unfolding step
returns-in-Quiet-clause-performs c =
    ap {B = PlainPartition × Reply} (λ told. (c.args.p.now, told)) c.quiet.ensures ∙ ap (step c.args.p.now) (sym c.in-Quiet.is)

pub returns-in-Unsubscribe-clause-performs : goal.returns-in-Unsubscribe-clause-performs
unfolding step
returns-in-Unsubscribe-clause-performs c = c.unsubscribe.ensures ∙ ap (step c.args.p.now) (sym c.in-Unsubscribe.is)

pub returns-in-AddRule-clause-performs : goal.returns-in-AddRule-clause-performs
unfolding step
returns-in-AddRule-clause-performs c = performs-along c.args.p.now c.add_rule.new.p c.add_rule.result _ _ (ap (step c.args.p.now) (sym c.in-AddRule.is)) c.add_rule.ensures.performs

pub returns-in-AddRule-clause-memory : goal.returns-in-AddRule-clause-memory
unfolding step
returns-in-AddRule-clause-memory c = memory-along c.add_rule.result _ _ (ap (step c.args.p.now) (sym c.in-AddRule.is)) c.add_rule.ensures.memory

pub returns-in-Deactivate-clause-performs : goal.returns-in-Deactivate-clause-performs
unfolding step
returns-in-Deactivate-clause-performs c = c.deactivate.ensures ∙ ap (step c.args.p.now) (sym c.in-Deactivate.is)
