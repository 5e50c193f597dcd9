use Rattle.pubsub_registry.proofs.Prelude.{◌≡◌, ◌≤◌, true, length, drop, All, sub_lt}
use Rattle.pubsub_registry.proofs.indexed.place_of.Given as goal

abbrev pub invariant-loop-at : goal.invariant-loop-at
invariant-loop-at l = (l.at ≤ length l.names) × All (λ b. sub_lt l.sub b ≡ true) (drop l.at l.names)

abbrev pub decreases-loop-at : goal.decreases-loop-at
decreases-loop-at l = l.at
