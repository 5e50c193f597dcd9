use Rattle.script_checker.proofs.Prelude.{◌≤◌, ◌-◌, length}
use Rattle.script_checker.specs.Places.{IsWhole}
use Rattle.script_checker.proofs.finding.misfit.Given as goal

abbrev pub invariant-loop-piece : goal.invariant-loop-piece
invariant-loop-piece l = IsWhole l.bytes l.last.start l.last.end × (l.number ≤ l.last.end)

abbrev pub decreases-loop-piece : goal.decreases-loop-piece
decreases-loop-piece l = length l.bytes - l.last.end
