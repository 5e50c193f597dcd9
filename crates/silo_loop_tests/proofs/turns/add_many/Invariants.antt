use Rattle.turnstile.specs.Calls.{IsOf}
use Rattle.silo_loop_tests.proofs.turns.add_many.Given as goal

abbrev pub invariant-loop-amount : goal.invariant-loop-amount
invariant-loop-amount g l = IsOf l.turnstile l.pass
