use Rattle.std.proofs.Common.{◌≡◌, ℕ, ◌<◌, get_or}
use Rattle.queue_balancer.proofs.balancer.spare.Given as goal

abbrev pub invariant-loop-queue : goal.invariant-loop-queue
invariant-loop-queue l = (queue : ℕ) → queue < l.queue → get_or l.places queue 0 ≡ l.silo → get_or l.old queue 0 ≡ l.silo
