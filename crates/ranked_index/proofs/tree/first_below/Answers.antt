use Rattle.ranked_index.proofs.Prelude.{arith}
use Rattle.ranked_index.proofs.TreeLemmas.{left_below, right_below, leaf_below}
use Rattle.ranked_index.proofs.tree.first_below.Goals as goal

pub loop-at-preserved-then-number-bound : goal.loop-at-preserved-then-number-bound
loop-at-preserved-then-number-bound c = (
  omega arith,
  omega arith,
  λ from here. right_below c.args.key from c.args.bound c.loop-at.at c.args.nodes.now c.requires.tree (omega arith) (omega (arith, c.number.ensures, c.if-number-bound.true)) (c.loop-at.invariant.2 from here),
)

pub loop-at-preserved : goal.loop-at-preserved
loop-at-preserved c = (
  omega arith,
  omega arith,
  λ from here. left_below c.args.key from c.args.bound c.loop-at.at c.args.nodes.now (omega arith) (omega (arith, c.number.ensures, c.if-number-bound.false)) (c.loop-at.invariant.2 from here),
)

pub returns : goal.returns
returns c from here =
    leaf_below c.args.key from c.args.bound c.loop-at.at c.args.nodes.now (omega arith) (c.loop-at.invariant.2 from here)
