use Rattle.std.proofs.Common.{◌<◌}
use Rattle.std.specs.Prelude.{All}
use Rattle.queue_balancer.specs.Balance.{HasNoDoubles}
use Rattle.silo_loop_tests.proofs.balancer.sixteen_silos.Given as goal

abbrev pub invariant-loop-silo : goal.invariant-loop-silo
invariant-loop-silo l = record {
  apart : HasNoDoubles l.silos.items;
  below : All (λ silo. silo < l.silo) l.silos.items;
}
