use Rattle.turnstile.specs.Calls.{IsOf}
use Rattle.silo_loop_tests.proofs.replies.call_all.Given as goal

abbrev pub invariant-loop-at : goal.invariant-loop-at
invariant-loop-at g l = IsOf l.turnstile l.pass
