use Rattle.queue_callers.proofs.Prelude.{NeverProduces, ◌≡◌, vec_capacity, vec_len, AllByRecursion}
use Rattle.queue_callers.specs.Gathering.{passes_of}
use Rattle.queue_callers.proofs.caller.Caller.of_lines.Given as goal

abbrev pub invariant-loop-line : goal.invariant-loop-line
invariant-loop-line g l =
    record {
      passes : l.queues.items ≡ passes_of l.yielded;
      never : AllByRecursion NeverProduces l.queues.items;
      room : vec_capacity l.queues ≡ vec_len l.fn.lines;
    }
