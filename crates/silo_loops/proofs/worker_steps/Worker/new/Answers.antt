use Rattle.silo_loops.proofs.Working.{fresh-at}
use Rattle.silo_loops.proofs.worker_steps.Worker.new.Goals as goal

pub invariant_of-result : goal.invariant_of-result
invariant_of-result g c = (fresh-at _ c.new.ensures.at c.new.ensures.step c.requires, c.into_events.ensures)
