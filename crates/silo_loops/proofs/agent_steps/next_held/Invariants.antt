use Rattle.silo_loops.proofs.Prelude.{◌≡◌, ◌<◌, ◌≤◌, ℕ, Some, None, length, slice_get}
use Rattle.silo_loops.proofs.agent_steps.next_held.Given as goal

abbrev pub invariant-loop-at : goal.invariant-loop-at
invariant-loop-at l = (length l.held.items ≡ length l.fn.held.items) × ((k : ℕ) → k < l.at → l.fn.visit.at ≤ k → slice_get l.held.items k ≡ Some None) × (l.visit ≡ l.fn.visit)
