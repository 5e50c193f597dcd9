use Rattle.script_tasks.proofs.Prelude.{length}
use Rattle.script_tasks.proofs.progress.events_in.Given as goal

abbrev pub decreases-loop-line : goal.decreases-loop-line
decreases-loop-line l = length l.lines
