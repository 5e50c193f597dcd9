use Rattle.queue_callers.proofs.Prelude.{places, ◌≡◌, AllByRecursion}
use Rattle.queue_callers.specs.Calls.{turnstiles}
use Rattle.queue_callers.specs.Gathering.{AreAt, JoinsEach, passes_of}
use Rattle.queue_callers.proofs.gathering.gather.Given as goal

abbrev pub invariant-loop-caller : goal.invariant-loop-caller
invariant-loop-caller g l =
    record {
      joined : JoinsEach (passes_of l.fn.lines.items) l.yielded l.all;
      at : turnstiles l.all ≡ places l.fn.lines.items;
      rest : AllByRecursion (AreAt (places l.fn.lines.items)) l.caller-iterator.rest.items;
    }
