use Rattle.silo_loops.proofs.Prelude.{ℕ, ◌<◌, HoldsAt}
use Rattle.silo_loops.specs.Lines.{HasLooked}
use Rattle.silo_loops.proofs.worker_steps.all_looked.Given as goal

abbrev pub invariant-loop-line : goal.invariant-loop-line
invariant-loop-line g l = (k : ℕ) → k < l.line-index → HoldsAt (λ line. HasLooked line) l.lines.items k
