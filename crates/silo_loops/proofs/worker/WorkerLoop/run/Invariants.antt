use Rattle.silo_loops.specs.Workers.{WorkerRuns}
use Rattle.silo_loops.proofs.worker.WorkerLoop.run.Given as goal

abbrev pub invariant-loop : goal.invariant-loop
invariant-loop g l = WorkerRuns g.G.Gate.follows l.fn.self l.this
