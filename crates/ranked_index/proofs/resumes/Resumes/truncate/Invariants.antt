use Rattle.ranked_index.proofs.Prelude.{◌≡◌, length}
use Rattle.ranked_index.specs.Leaves.{truncated}
use Rattle.ranked_index.proofs.resumes.Resumes.truncate.Given as goal

abbrev pub invariant-loop-self : goal.invariant-loop-self
invariant-loop-self l = truncated l.len l.self ≡ truncated l.len l.initial.self

abbrev pub decreases-loop-self : goal.decreases-loop-self
decreases-loop-self l = length l.self.leaves
