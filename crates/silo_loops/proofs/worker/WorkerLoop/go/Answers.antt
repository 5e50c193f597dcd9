use Rattle.silo_loops.specs.Workers.{WorkerAdvances}
use Rattle.silo_loops.specs.Chains.{Stays}
use Rattle.silo_loops.proofs.Running.{visited}
use Rattle.silo_loops.proofs.worker.WorkerLoop.go.Goals as goal

pub returns-then-load : goal.returns-then-load
returns-then-load g c = Stays

pub returns : goal.returns
returns g c = visited (WorkerAdvances g.G.Gate.follows) _ _ _ _ c.visit.ensures.steps.1 c.visit.ensures.steps.2
