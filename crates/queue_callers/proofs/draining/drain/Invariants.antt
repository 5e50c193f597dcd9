use Rattle.queue_callers.proofs.Prelude.{◌≡◌, AllZip}
use Rattle.queue_callers.specs.Calls.{turnstiles}
use Rattle.queue_callers.specs.Draining.{LooksInVain, ProducesNone}
use Rattle.queue_callers.proofs.draining.drain.Given as goal

abbrev pub invariant-loop-look : goal.invariant-loop-look
invariant-loop-look g l =
    record {
      none : AllZip ProducesNone l.fn.caller l.caller;
      at : turnstiles l.caller ≡ turnstiles l.fn.caller;
      vain : LooksInVain l.look l.fn.caller l.caller;
    }
