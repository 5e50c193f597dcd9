use Rattle.partition_reference.proofs.Prelude.{◌≡◌, ℕ, drop, flat_map, has, implied}
use Rattle.partition_reference.proofs.pulling.makes_of_event.Given as goal

abbrev pub invariant-loop-rule : goal.invariant-loop-rule
invariant-loop-rule l = (position : ℕ) → has l.name (flat_map (implied position l.event) (drop l.rule-index l.rules)) ≡ has l.name (flat_map (implied position l.event) l.rules)
