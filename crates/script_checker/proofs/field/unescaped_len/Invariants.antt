use Rattle.script_checker.proofs.Prelude.{◌≤◌}
use Rattle.script_checker.proofs.field.unescaped_len.Given as goal

abbrev pub invariant-loop-byte : goal.invariant-loop-byte
invariant-loop-byte l = l.len ≤ l.byte-index
