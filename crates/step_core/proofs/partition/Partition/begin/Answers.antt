use Rattle.step_core.proofs.Prelude.{subst, Ok, Performs, Begin}
use Rattle.stream_model.specs.Step.{step}
use Rattle.step_core.specs.PlainOf.{plain_of}
use Rattle.step_core.specs.Replied.{reply_with}
use Rattle.step_core.proofs.AssembledTable.{agrees-after}
use Rattle.step_core.proofs.partition.Partition.begin.Goals as goal

pub invariant_of-self : goal.invariant_of-self
unfolding step
invariant_of-self c =
    let called = c.begin-outcome in
    agrees-after c.self.inside.parts called.new.parts c.self.invariant called.ensures.assembled c.len.ensures.unique c.len.ensures.records c.len-2.ensures.distinct
    (Begin c.args.grain.now c.args.max) (Ok (reply_with called.new.parts.queue.events called.result)) called.ensures.performs

pub returns : goal.returns
unfolding step
returns c =
    let called = c.begin-outcome in
    subst (λ p. Performs p (plain_of called.new.parts) (Ok (reply_with called.new.parts.queue.events called.result)) (step p (Begin c.args.grain.now c.args.max))) c.self.view_is called.ensures.performs
