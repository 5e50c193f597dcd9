use Rattle.std.proofs.Common.{◌≡◌, ◌*◌, ℕ, length}
use Rattle.queue_balancer.specs.Balance.{count}
use Rattle.queue_balancer.proofs.places.places.Given as goal

abbrev pub invariant-loop-round : goal.invariant-loop-round
invariant-loop-round l = record {
  long : length l.places.items ≡ l._round * length l.live;
  counts : (silo : ℕ) → count silo l.places.items ≡ l._round * count silo l.live;
}
