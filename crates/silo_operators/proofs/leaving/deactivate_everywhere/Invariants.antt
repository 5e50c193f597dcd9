use Rattle.silo_operators.proofs.Prelude.{LineView, ℕ}
use Rattle.silo_operators.specs.Changes.{HasMovedNowhere, HasSince, IsDeactivation}
use Rattle.silo_operators.proofs.Changing.{Since}
use Rattle.silo_operators.proofs.leaving.deactivate_everywhere.Given as goal

abbrev pub invariant-loop-queue : goal.invariant-loop-queue
invariant-loop-queue g l = Since (λ (k : ℕ) (was is : LineView). HasMovedNowhere was is × HasSince was is (IsDeactivation l.fn.grain)) l.queue l.fn.lines.items l.lines.items
