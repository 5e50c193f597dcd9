use Rattle.std.proofs.Common.{◌≡◌, ℕ}
use Rattle.queue_balancer.specs.Balance.{count}
use Rattle.queue_balancer.proofs.BalanceLemmas.{KeepsBelow}
use Rattle.queue_balancer.proofs.balancer.keep.Given as goal

abbrev pub invariant-loop-queue : goal.invariant-loop-queue
invariant-loop-queue l = record {
  same : (silo : ℕ) → count silo l.places ≡ count silo l.initial.places;
  keeps : KeepsBelow l.old l.places l.queue;
}
