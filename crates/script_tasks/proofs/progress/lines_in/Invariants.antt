use Rattle.script_tasks.proofs.Prelude.{length}
use Rattle.script_tasks.proofs.progress.lines_in.Given as goal

abbrev pub decreases-loop-count : goal.decreases-loop-count
decreases-loop-count l = length l.lines
