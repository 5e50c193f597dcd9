use Rattle.step_core.proofs.Prelude.{arith}
use Rattle.step_core.proofs.CatchOps.{count-is, ready-next}
use Rattle.step_core.proofs.partition.Partition.ready_next.Goals as goal

pub ready_next-requires-clause-number : goal.ready_next-requires-clause-number
ready_next-requires-clause-number c = omega (arith, c.requires, count-is c.self.inside.parts c.args.self.now c.self.invariant c.self.view_is)

pub returns : goal.returns
returns c = ready-next c.self.inside.parts c.args.self.now c.args.number c.ready_next.result c.self.invariant c.self.view_is c.requires c.ready_next.ensures
