use Rattle.silo_loops.proofs.Stepping.{entered, entered-at}
use Rattle.silo_loops.proofs.worker_steps.Worker.enter.Goals as goal

pub invariant_of-self : goal.invariant_of-self
invariant_of-self g c = (entered-at c.self.view_is c.after_enter.new.self.at c.after_enter.new.self.step c.call-answer.ensures c.after_enter.ensures.at c.after_enter.ensures.step c.self.invariant.0, c.self.invariant.1)

pub returns : goal.returns
returns g c = entered c.self.view_is c.after_enter.new.self.at c.after_enter.new.self.step c.requires c.call-answer.ensures c.after_enter.ensures.step c.end_of_asking.ensures
