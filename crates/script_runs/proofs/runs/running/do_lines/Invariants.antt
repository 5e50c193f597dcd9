use Rattle.script_runs.proofs.Progress.{Progress}
use Rattle.script_runs.proofs.runs.running.do_lines.Given as goal

abbrev pub invariant-loop-line : goal.invariant-loop-line
invariant-loop-line g l = Progress l.fn.lines.items l.fn.cluster l.fn.caller l.yielded l.printed.items l.cluster l.caller
