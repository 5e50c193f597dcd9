use Rattle.ranked_index.proofs.Prelude.{◌∙◌, arith, length-set, drop-set-lt}
use Rattle.ranked_index.proofs.SettleLemmas.{settled_node}
use Rattle.ranked_index.proofs.tree.settle_path.Goals as goal

pub loop-at-preserved : goal.loop-at-preserved
loop-at-preserved c = (
  settled_node c.loop-at.at c.lesser-node.result c.loop-at.nodes c.lesser-node.ensures c.loop-at.invariant.0,
  omega arith,
  omega (arith, length-set c.loop-at.nodes c.loop-at.at c.lesser-node.result),
  λ place past. drop-set-lt place c.loop-at.nodes c.loop-at.at c.lesser-node.result (omega arith) ∙ c.loop-at.invariant.3 place past,
)
