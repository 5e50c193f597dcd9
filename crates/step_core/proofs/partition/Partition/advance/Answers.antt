use Rattle.step_core.specs.Replied.{answered}
use Rattle.step_core.proofs.AssembledTable.{agrees-after}
use Rattle.step_core.proofs.partition.Partition.advance.Goals as goal

pub invariant_of-self : goal.invariant_of-self
invariant_of-self c =
    let outcome = c.step-outcome in
    agrees-after c.self.inside.parts outcome.new.parts c.self.invariant outcome.ensures.assembled c.len.ensures.unique c.len.ensures.records c.len-2.ensures.distinct
    c.args.op.now (answered outcome.new.parts.queue.events outcome.result) outcome.ensures.performs
