use Rattle.silo_loops.proofs.Prelude.{◌≡◌, length}
use Rattle.silo_loops.proofs.agent_steps.next_hinted.Given as goal

abbrev pub invariant-loop-at : goal.invariant-loop-at
invariant-loop-at l = (length l.held.items ≡ length l.fn.held.items) × (l.visit ≡ l.fn.visit)
