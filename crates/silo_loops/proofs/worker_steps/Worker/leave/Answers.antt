use Rattle.silo_loops.proofs.Stepping.{left, left-at}
use Rattle.silo_loops.proofs.worker_steps.Worker.leave.Goals as goal

pub invariant_of-self : goal.invariant_of-self
invariant_of-self g c = (left-at c.self.view_is c.after_leave.ensures.at c.after_leave.ensures.free c.self.invariant.0, c.self.invariant.1)

pub returns : goal.returns
returns g c = left c.self.view_is c.after_leave.new.self.at c.after_leave.new.self.step c.requires c.self.invariant.0 c.call-answer.ensures c.after_leave.ensures.free c.end_of_asking.ensures
