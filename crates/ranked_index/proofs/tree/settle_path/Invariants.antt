use Rattle.ranked_index.proofs.Prelude.{◌≡◌, ℕ, ◌+◌, ◌<◌, ◌≤◌, length, drop}
use Rattle.ranked_index.specs.Tree.{IsTreeBut}
use Rattle.ranked_index.proofs.tree.settle_path.Given as goal

abbrev pub invariant-loop-at : goal.invariant-loop-at
invariant-loop-at l =
    IsTreeBut l.at l.at l.nodes × (l.at ≤ l.fn.at) × (l.at + l.at + 1 < length l.nodes)
    × ((place : ℕ) → l.fn.at < place → drop place l.nodes ≡ drop place l.initial.nodes)

abbrev pub decreases-loop-at : goal.decreases-loop-at
decreases-loop-at l = l.at
