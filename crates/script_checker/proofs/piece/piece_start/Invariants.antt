use Rattle.script_checker.proofs.Prelude.{◌≤◌, ◌-◌, length}
use Rattle.script_checker.specs.Places.{AreSpaces}
use Rattle.script_checker.proofs.piece.piece_start.Given as goal

abbrev pub invariant-loop-start : goal.invariant-loop-start
invariant-loop-start l = (l.from ≤ l.start) × (l.start ≤ length l.bytes) × AreSpaces l.bytes l.from l.start

abbrev pub decreases-loop-start : goal.decreases-loop-start
decreases-loop-start l = length l.bytes - l.start
