use Rattle.ranked_index.proofs.Prelude.{◌≡◌, ◌-◌}
use Rattle.ranked_index.specs.Keys.{filled}
use Rattle.ranked_index.proofs.tree.fill_leaves.Given as goal

abbrev pub invariant-loop-leaf : goal.invariant-loop-leaf
invariant-loop-leaf l = l.nodes ≡ filled l.first (l.leaf - l.first) l.n l.initial.nodes
