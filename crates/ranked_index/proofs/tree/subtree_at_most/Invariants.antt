use Rattle.ranked_index.proofs.TreeLemmas.{IsClimbed}
use Rattle.ranked_index.proofs.tree.subtree_at_most.Given as goal

abbrev pub invariant-loop-at : goal.invariant-loop-at
invariant-loop-at l = IsClimbed l.key l.leaf l.bound l.at l.end l.nodes

abbrev pub decreases-loop-at : goal.decreases-loop-at
decreases-loop-at l = l.end
