use Rattle.script_tasks.proofs.Prelude.{◌≡◌, ◌++◌, length, flat_map}
use Rattle.script_tasks.specs.Printing.{kept_line, without_events}
use Rattle.script_tasks.proofs.summary.without_events.Given as goal

-- the lines so far were kept, or left out
abbrev pub invariant-loop-line : goal.invariant-loop-line
invariant-loop-line l = l.kept.items ++ flat_map kept_line l.lines ≡ without_events l.fn.text

abbrev pub decreases-loop-line : goal.decreases-loop-line
decreases-loop-line l = length l.lines
