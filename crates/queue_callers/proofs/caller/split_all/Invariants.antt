use Rattle.queue_callers.proofs.Prelude.{AllZipFront, ◌≡◌, length, vec_capacity, IsSplitOff}
use Rattle.queue_callers.proofs.caller.split_all.Given as goal

abbrev pub invariant-loop-at : goal.invariant-loop-at
invariant-loop-at g l =
    record {
      same : l.queues.items ≡ l.fn.queues.items;
      made : length l.made.items ≡ l.at;
      off : AllZipFront IsSplitOff l.fn.queues.items l.made.items;
      room : vec_capacity l.made ≡ length l.fn.queues.items;
    }
