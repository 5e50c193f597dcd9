use Rattle.silo_threads.proofs.Prelude.{◌≡◌, length, vec_capacity}
use Rattle.silo_threads.specs.Clusters.{AreAtQueues, HaveSeenNone}
use Rattle.silo_threads.proofs.opening.open_queues.Given as goal

abbrev pub invariant-loop-queue : goal.invariant-loop-queue
invariant-loop-queue g l =
    record {
      many : length l.lines.items ≡ l.queue;
      at : AreAtQueues l.fn.config l.lines.items;
      unseen : HaveSeenNone l.lines.items;
      room : vec_capacity l.lines ≡ l.fn.config.queues;
    }
