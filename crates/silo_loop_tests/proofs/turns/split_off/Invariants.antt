use Rattle.std.proofs.Common.{All}
use Rattle.turnstile.specs.Calls.{IsOf}
use Rattle.silo_loop_tests.proofs.turns.split_off.Given as goal

abbrev pub invariant-loop : goal.invariant-loop
invariant-loop g l = IsOf l.turnstile l.first × All (IsOf l.turnstile) l.split.items
