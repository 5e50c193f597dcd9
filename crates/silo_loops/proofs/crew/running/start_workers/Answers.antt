use Rattle.silo_loops.specs.Chains.{Stays}
use Rattle.silo_loops.proofs.crew.running.start_workers.Goals as goal

pub returns-in-Err-clause-second : goal.returns-in-Err-clause-second
returns-in-Err-clause-second g c = Stays
