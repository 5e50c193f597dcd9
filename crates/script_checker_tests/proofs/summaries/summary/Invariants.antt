use Rattle.std.proofs.Common.{length}
use Rattle.script_checker_tests.proofs.summaries.summary.Given as goal

abbrev pub decreases-loop-line : goal.decreases-loop-line
decreases-loop-line l = length l.lines
