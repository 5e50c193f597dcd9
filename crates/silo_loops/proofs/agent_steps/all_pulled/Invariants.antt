use Rattle.silo_loops.proofs.Prelude.{◌≡◌, ◌<◌, ℕ, Some, slice_get, slice_index_or}
use Rattle.silo_loops.specs.Lines.{HasPulled, LineView}
use Rattle.silo_loops.proofs.agent_steps.all_pulled.Given as goal

abbrev pub invariant-loop-at : goal.invariant-loop-at
invariant-loop-at g l = (k : ℕ) → k < l.at → (line : LineView) (generation : ℕ) → slice_get l.held.items k ≡ Some (Some generation) → HasPulled (slice_index_or l.lines.items k line)
