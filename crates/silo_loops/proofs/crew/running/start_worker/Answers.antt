use Rattle.silo_loops.specs.Chains.{Stays}
use Rattle.silo_loops.proofs.crew.running.start_worker.Goals as goal

pub returns-in_default : goal.returns-in_default
returns-in_default g c = Stays
