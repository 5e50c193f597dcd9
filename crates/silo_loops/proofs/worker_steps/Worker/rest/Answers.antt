use Rattle.silo_loops.proofs.Working.{rested-at}
use Rattle.silo_loops.proofs.worker_steps.Worker.rest.Goals as goal

pub invariant_of-self : goal.invariant_of-self
invariant_of-self g c = (rested-at c.rest_all.ensures c.self.invariant.0, c.self.invariant.1)
