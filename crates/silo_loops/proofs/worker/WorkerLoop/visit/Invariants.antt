use Rattle.silo_loops.specs.Workers.{WorkerAdvances}
use Rattle.silo_loops.specs.Chains.{Visits}
use Rattle.silo_loops.proofs.worker.WorkerLoop.visit.Given as goal

abbrev pub invariant-loop : goal.invariant-loop
invariant-loop g l = Visits (WorkerAdvances g.G.Gate.follows) l.did l.fn.self l.self
