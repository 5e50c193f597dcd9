use Rattle.ranked_index.proofs.Prelude.{◌≡◌, ℕ, ◌+◌, ◌<◌, ◌≤◌, length, drop}
use Rattle.ranked_index.specs.Tree.{IsTreeBut}
use Rattle.ranked_index.proofs.tree.settle.Given as goal

abbrev pub invariant-loop-last : goal.invariant-loop-last
invariant-loop-last l =
    IsTreeBut l.first l.last l.nodes × (l.first ≤ l.last) × (l.last ≤ l.fn.last) × (l.last + l.last + 1 < length l.nodes)
    × ((place : ℕ) → l.fn.last < place → drop place l.nodes ≡ drop place l.initial.nodes)

abbrev pub decreases-loop-last : goal.decreases-loop-last
decreases-loop-last l = l.last
