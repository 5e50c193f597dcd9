use Rattle.step_core.proofs.Prelude.{subst, Ok, Performs, Ack}
use Rattle.stream_model.specs.Step.{step}
use Rattle.step_core.specs.PlainOf.{plain_of}
use Rattle.step_core.specs.Replied.{reply_of}
use Rattle.step_core.proofs.AssembledTable.{agrees-after}
use Rattle.step_core.proofs.partition.Partition.ack.Goals as goal

pub invariant_of-self : goal.invariant_of-self
unfolding step
invariant_of-self c =
    let called = c.ack-told in
    agrees-after c.self.inside.parts called.new.parts c.self.invariant called.ensures.assembled c.len.ensures.unique c.len.ensures.records c.len-2.ensures.distinct
    (Ack c.self.inside.parts.agent.generation c.args.sub.now c.args.token) (Ok (reply_of called.result)) (rw c.generation-generation.ensures at called.ensures.performs)

pub returns : goal.returns
unfolding step
returns c =
    let called = c.ack-told in
    subst (λ p. Performs p (plain_of called.new.parts) (Ok (reply_of called.result)) (step p (Ack p.generation c.args.sub.now c.args.token))) c.self.view_is (rw c.generation-generation.ensures at called.ensures.performs)
