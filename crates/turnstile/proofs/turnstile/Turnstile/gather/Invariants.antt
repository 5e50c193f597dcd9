use Rattle.turnstile.proofs.Prelude.{All, vec_len}
use Rattle.turnstile.specs.Calls.{IsOf}
use Rattle.turnstile.proofs.Gathering.{Taken}
use Rattle.turnstile.proofs.turnstile.Turnstile.gather.Given as goal

abbrev pub invariant-loop-other : goal.invariant-loop-other
invariant-loop-other g l = IsOf l.self l.kept × All (IsOf l.self) l.passes.items × Taken l.fn.passes.items l.passes.items l.kept

abbrev pub decreases-loop-other : goal.decreases-loop-other
decreases-loop-other g l = vec_len l.passes
