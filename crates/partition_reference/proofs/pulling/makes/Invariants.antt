use Rattle.partition_reference.proofs.Prelude.{◌≡◌, ℕ, drop, has, all_implied}
use Rattle.partition_reference.proofs.pulling.makes.Given as goal

abbrev pub invariant-loop-event : goal.invariant-loop-event
invariant-loop-event l = (position : ℕ) → has l.name (all_implied l.rules position (drop l.event-index l.events)) ≡ has l.name (all_implied l.rules position l.events)
