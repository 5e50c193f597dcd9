use Rattle.queue_callers.proofs.Prelude.{◌≡◌}
use Rattle.queue_callers.specs.Calls.{turnstiles}
use Rattle.queue_callers.proofs.Looking.{QuietUpTo}
use Rattle.queue_callers.proofs.asking.ask_quiet.Given as goal

abbrev pub invariant-loop-queue : goal.invariant-loop-queue
invariant-loop-queue g l =
    record {
      quiet : QuietUpTo l.queue l.fn.caller l.caller;
      at : turnstiles l.caller ≡ turnstiles l.fn.caller;
    }
