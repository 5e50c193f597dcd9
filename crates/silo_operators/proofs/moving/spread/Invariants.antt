use Rattle.silo_operators.proofs.Prelude.{ℕ, slice_index}
use Rattle.silo_operators.specs.Changes.{HaveOnlySeen, IsAtSilo}
use Rattle.silo_operators.proofs.Changing.{Since}
use Rattle.silo_operators.proofs.moving.spread.Given as goal

abbrev pub invariant-loop-queue : goal.invariant-loop-queue
invariant-loop-queue g l =
    record {
      since : Since (λ (k : ℕ). IsAtSilo (slice_index l.fn.old k) (slice_index l.fn.new k)) l.queue l.fn.lines.items l.lines.items;
      seen : HaveOnlySeen l.fn.lines.items l.lines.items;
    }
