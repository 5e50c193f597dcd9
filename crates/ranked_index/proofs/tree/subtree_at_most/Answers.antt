use Rattle.ranked_index.proofs.Prelude.{arith}
use Rattle.ranked_index.proofs.TreeLemmas.{climbed_step, climbed_here}
use Rattle.ranked_index.proofs.tree.subtree_at_most.Goals as goal
use Rattle.ranked_index.proofs.tree.subtree_at_most.Goals.{else-at-eq1-via-then-at-eq1+else-number-bound, else-at-eq1-via-else-at-eq1}

pub returns-then-number-bound : goal.returns-then-number-bound
returns-then-number-bound c =
    climbed_here c.args.key c.args.leaf c.args.bound c.loop-at.at c.loop-at.end c.args.nodes.now c.requires.leaves c.loop-at.invariant c.loop-at-test.true (omega (arith, c.number.ensures))

pub loop-at-preserved : goal.loop-at-preserved
loop-at-preserved c =
    climbed_step c.args.key c.args.leaf c.args.bound c.loop-at.at c.loop-at.end c.args.nodes.now c.requires.tree c.loop-at.invariant c.loop-at-test.true
    (λ odd. elim c.else-at-eq1.branch [
      | else-at-eq1-via-then-at-eq1+else-number-bound w ↦ omega (arith, w.number.ensures, w.if-number-bound.false)
      | else-at-eq1-via-else-at-eq1 w ↦ absurd (w.if-at-eq1.false odd)
    ])
