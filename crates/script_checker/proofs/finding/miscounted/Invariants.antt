use Rattle.script_checker.proofs.Prelude.{◌≤◌, ◌-◌, length}
use Rattle.script_checker.specs.Places.{EndsAt}
use Rattle.script_checker.proofs.finding.miscounted.Given as goal

abbrev pub invariant-loop-piece : goal.invariant-loop-piece
invariant-loop-piece l = (l.from ≤ length l.bytes) × EndsAt l.bytes l.from × (l.number ≤ l.from)

abbrev pub decreases-loop-piece : goal.decreases-loop-piece
decreases-loop-piece l = length l.bytes - l.from
