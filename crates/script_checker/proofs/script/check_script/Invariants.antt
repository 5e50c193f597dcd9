use Rattle.script_checker.proofs.Prelude.{length}
use Rattle.stream_script.specs.Lines.{lines_of}
use Rattle.script_checker.proofs.ScriptLemmas.{Found}
use Rattle.script_checker.proofs.script.check_script.Given as goal

abbrev pub invariant-loop-line : goal.invariant-loop-line
invariant-loop-line l = Found l.fn.queues l.fn.mode (lines_of l.fn.script) l.number l.lines l.findings

abbrev pub decreases-loop-line : goal.decreases-loop-line
decreases-loop-line l = length l.lines
