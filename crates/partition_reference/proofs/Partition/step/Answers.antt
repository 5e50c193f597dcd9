use Rattle.partition_reference.proofs.Prelude.{within-after}
use Rattle.stream_model.proofs.Reaching.{reached-after}
use Rattle.stream_model.proofs.StepBounds.{bounds-step}
use Rattle.partition_reference.proofs.Partition.step.Goals as goal

pub invariant_of-self : goal.invariant_of-self
invariant_of-self c = (
  within-after c.self.inside.plain c.step_plain.new.p c.step_plain.result _ c.step_plain.ensures.performs c.self.invariant.0 (bounds-step c.self.inside.plain c.args.op c.self.invariant.0),
  reached-after c.self.inside.plain c.step_plain.new.p c.args.op c.step_plain.result c.step_plain.ensures.performs c.self.invariant.1,
)
