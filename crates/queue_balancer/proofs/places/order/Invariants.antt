use Rattle.std.proofs.Common.{◌≡◌, ◌++◌, take, filter, not}
use Rattle.queue_balancer.specs.Places.{has_more}
use Rattle.queue_balancer.proofs.places.order.Given as goal

abbrev pub invariant-loop-silo : goal.invariant-loop-silo
invariant-loop-silo l = l.order.items ≡ filter (has_more l.least l.old) (take l.silo-index l.live)

abbrev pub invariant-loop-silo-2 : goal.invariant-loop-silo-2
invariant-loop-silo-2 l =
    l.order.items ≡ filter (has_more l.least l.old) l.live ++ filter (λ silo. not (has_more l.least l.old silo)) (take l.silo-index l.live)
