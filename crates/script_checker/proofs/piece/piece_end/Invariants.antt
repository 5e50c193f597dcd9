use Rattle.script_checker.proofs.Prelude.{◌≤◌, ◌-◌, length}
use Rattle.script_checker.proofs.piece.piece_end.Given as goal

abbrev pub invariant-loop-end : goal.invariant-loop-end
invariant-loop-end l = (l.from ≤ l.end) × (l.end ≤ length l.bytes)

abbrev pub decreases-loop-end : goal.decreases-loop-end
decreases-loop-end l = length l.bytes - l.end
