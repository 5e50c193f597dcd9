use Rattle.ranked_index.proofs.Prelude.{◌≡◌, ◌+◌, length, subst, arith}
use Rattle.ranked_index.specs.Tree.{IsPowerOfTwo}
use Rattle.ranked_index.proofs.Doubled.{power_of-first, power_of-twice}
use Rattle.ranked_index.proofs.tree.LeastTree.insert.Goals as goal
use Rattle.ranked_index.proofs.tree.LeastTree.insert.Goals.{then-self-eq0, else-self-eq0}

pub grown-requires-clause-power : goal.grown-requires-clause-power
grown-requires-clause-power c =
    let twice = c.if-self-eq0.first_leaf + c.if-self-eq0.first_leaf in
    elim c.if-self-eq0.branch [
      | then-self-eq0 w ↦ let one : 1 + 1 ≡ twice = omega arith in subst IsPowerOfTwo one power_of-first
      | else-self-eq0 w ↦
          power_of-twice (length c.self.inside.nodes.items) twice (c.self.invariant.power (omega arith)) (omega (arith, c.self.invariant.halves))
    ]
