use Rattle.silo_loops.proofs.Prelude.{None}
use Rattle.silo_loops.specs.Workers.{worker_of}
use Rattle.silo_loops.proofs.Causes.{worker-cause}
use Rattle.silo_loops.proofs.worker.WorkerLoop.take_step.Goals as goal

pub invariant_of-self : goal.invariant_of-self
invariant_of-self g c = rw c.over-self-inside.ensures (worker-cause g.G.Gate.follows None _ (worker_of c.self.inside.worker c.self.inside.rounds None) _ tt c.go_on-did.ensures)

pub returns-in-None : goal.returns-in-None
returns-in-None g c = rw (c.over-self-inside.ensures, ← c.self.view_is, c.in-None.is) c.go_on-did.ensures
