use Rattle.script_runs.proofs.Prelude.{turnstiles, ◌≡◌, op_of}
use Rattle.script_runs.proofs.Asked.{AsksSoFar}
use Rattle.script_runs.proofs.producer.asking.ask_each.Given as goal

abbrev pub invariant-loop-queue : goal.invariant-loop-queue
invariant-loop-queue g l =
    record {
      far : AsksSoFar l.first (op_of l.fn.each) l.queue l.fn.caller l.caller;
      at : turnstiles l.caller ≡ turnstiles l.fn.caller;
    }
