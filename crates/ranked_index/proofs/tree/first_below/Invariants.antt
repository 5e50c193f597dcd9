use Rattle.ranked_index.proofs.Prelude.{ℕ, ◌-◌, ◌<◌, ◌≤◌, length}
use Rattle.ranked_index.specs.Tree.{IsSubtreeAtMost}
use Rattle.ranked_index.proofs.tree.first_below.Given as goal

abbrev pub invariant-loop-at : goal.invariant-loop-at
invariant-loop-at l =
    (0 < l.at) × (l.at ≤ length l.nodes) × ((from : ℕ) → IsSubtreeAtMost l.key from l.bound l.fn.at l.nodes → IsSubtreeAtMost l.key from l.bound l.at l.nodes)

abbrev pub decreases-loop-at : goal.decreases-loop-at
decreases-loop-at l = length l.nodes - l.at
