-- Rounds that follow one another.
use Rattle.streams.proofs.Prelude.{◌≡◌, ℕ, suc, ◌+◌, ◌-◌, ◌<◌, Result, Ok, refl, subst, arith}
use Rattle.std.specs.declared.alloc.AllocError.{AllocError}
use Rattle.queue_callers.specs.declared.draining.Drained.{Drained}
use Rattle.queue_callers.specs.declared.draining.Drained.TheVariants as drained
use Rattle.streams.specs.Answers as read

-- a round is left
pub one-more : (P : ℕ → Type 0) (rounds round : ℕ) → round < rounds → P (suc (rounds - (round + 1))) → P (rounds - round)
one-more P rounds round within holds =
    let same : suc (rounds - (round + 1)) ≡ rounds - round = omega arith in
    subst P same holds

-- a drain that settles
pub quiet-ended : (end : Result Drained AllocError) (done : Unit) → Ok done ≡ read.settled end → end ≡ Ok drained.Quiet
quiet-ended (Ok drained.Quiet) done is = refl
quiet-ended _ done is = absurd (cc)
