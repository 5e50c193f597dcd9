use Rattle.turnstile.specs.Calls.{IsOf}
use Rattle.silo_loop_tests.proofs.total.call_both.Given as goal

abbrev pub invariant-loop-at : goal.invariant-loop-at
invariant-loop-at g l = IsOf l.turnstile l.first × IsOf l.turnstile l.second
