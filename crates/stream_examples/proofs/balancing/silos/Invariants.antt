use Rattle.std.proofs.Common.{◌<◌}
use Rattle.std.specs.Prelude.{All}
use Rattle.queue_balancer.specs.Balance.{HasNoDoubles}
use Rattle.stream_examples.proofs.balancing.silos.Given as goal

abbrev pub invariant-loop-silo : goal.invariant-loop-silo
invariant-loop-silo l = record {
  apart : HasNoDoubles l.silos.items;
  below : All (λ silo. silo < l.silo) l.silos.items;
}
