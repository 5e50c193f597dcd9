use Rattle.streams.proofs.Prelude.{turnstiles, ◌≡◌, ◌*◌, ◌^◌, ◌≤◌}
use Rattle.streams.specs.Settling.{Counts}
use Rattle.streams.proofs.settling.count_batches.Given as goal

abbrev pub invariant-loop-queue : goal.invariant-loop-queue
invariant-loop-queue g l =
    record {
      counts : Counts l.queue l.fn.caller l.count l.caller;
      few : l.count ≤ 2 ^ 64 * l.queue;
      at : turnstiles l.caller ≡ turnstiles l.fn.caller;
    }
