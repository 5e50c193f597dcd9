use Rattle.queue_callers.proofs.Prelude.{AllZipFront, QueuePass, List, vec_len}
use Rattle.queue_callers.specs.Calls.{AreAlike, JoinsAll}
use Rattle.queue_callers.proofs.caller.join_all.Given as goal

-- what is made of the rest from here on is made of all
abbrev pub invariant-loop-other : goal.invariant-loop-other
invariant-loop-other g l =
    record {
      alike : AllZipFront AreAlike l.queues.items l.others.items;
      later : (rs : List QueuePass) → JoinsAll l.queues.items l.others.items rs → JoinsAll l.fn.queues.items l.fn.others.items rs;
    }

abbrev pub decreases-loop-other : goal.decreases-loop-other
decreases-loop-other g l = vec_len l.others
