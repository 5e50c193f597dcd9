use Rattle.ranked_index.proofs.Prelude.{◌∙◌, arith, drop-set-lt}
use Rattle.ranked_index.proofs.SettleLemmas.{settled_step}
use Rattle.ranked_index.proofs.tree.settle_row.Goals as goal

pub loop-at-preserved : goal.loop-at-preserved
loop-at-preserved c = (
  settled_step c.args.first c.args.last c.loop-at.at c.lesser.result c.loop-at.nodes c.lesser.ensures (omega arith) (omega arith) c.loop-at.invariant.0,
  λ place past. drop-set-lt place c.loop-at.nodes c.loop-at.at c.lesser.result (omega arith) ∙ c.loop-at.invariant.1 place past,
)
