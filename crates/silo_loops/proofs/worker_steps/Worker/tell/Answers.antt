use Rattle.silo_loops.proofs.Stepping.{told, told-at}
use Rattle.silo_loops.proofs.worker_steps.Worker.tell.Goals as goal

pub invariant_of-self : goal.invariant_of-self
invariant_of-self g c = (told-at c.self.view_is c.requires c.self.invariant.0, c.self.invariant.1)

pub returns : goal.returns
returns g c = told c.self.view_is c.requires c.self.invariant.0
