use Rattle.std.proofs.Common.{◌≡◌, length}
use Rattle.silo_loop_tests.proofs.silo.split_lines.Given as goal

abbrev pub invariant-loop-at : goal.invariant-loop-at
invariant-loop-at g l = length l.lines.items ≡ l.at-end
