use Rattle.queue_balancer.specs.Balance.{HasNoDoubles}
use Rattle.silo_loop_tests.proofs.balancer.go_down.Given as goal

abbrev pub invariant-loop-at : goal.invariant-loop-at
invariant-loop-at g l = HasNoDoubles l.live.items
