use Rattle.partition_reference.proofs.Prelude.{◌≡◌, drop, ◌&&◌, None, is_some, sub_lt, least_key, next_position, Subscription}
use Rattle.partition_reference.proofs.looking.least_deliverable.Given as goal

abbrev pub invariant-loop-index : goal.invariant-loop-index
invariant-loop-index l = l.least ≡ least_key sub_lt None (λ (r : Subscription). r.is_open && is_some (next_position l.p r)) (drop l.index l.subs)
