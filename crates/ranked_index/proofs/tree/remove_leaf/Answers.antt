use Rattle.ranked_index.proofs.Prelude.{◌∙◌, ◌+◌, ◌-◌, ◌/◌, inl, inr, take, ap, arith, cases_eq}
use Rattle.ranked_index.proofs.LeafLemmas.{same_past, least_tree-again}
use Rattle.ranked_index.proofs.RemoveLemmas.{leaves-remove}
use Rattle.ranked_index.proofs.tree.remove_leaf.Goals as goal

pub returns-clause-tree : goal.returns-clause-tree
returns-clause-tree c =
    least_tree-again c.args.nodes.now c.settle.new.nodes c.args.first_leaf c.args.len (c.args.len - 1) c.requires.tree
    (omega (arith, c.settle.auto.nodes, c.shift_back.auto.nodes)) (omega (arith, c.requires.tree.room)) c.settle.ensures.tree
    (λ i from to. same_past ((c.args.first_leaf + c.args.len - 1) / 2) c.shift_back.new.nodes c.settle.new.nodes c.settle.ensures.past i (omega (arith, c.requires.tree.room, c.requires.within))
    ∙ elim (cases_eq (i + 1) (c.args.first_leaf + c.args.len)) [
      | inl last ↦ c.shift_back.ensures.last i last
      | inr more ↦ c.shift_back.ensures.past i (omega (arith, c.requires.within)) ∙ c.requires.tree.unused i (omega (arith, c.requires.within)) to
    ])

pub returns-clause-leaves : goal.returns-clause-leaves
returns-clause-leaves c =
    ap (take (c.args.len - 1)) (c.settle.ensures.past c.args.first_leaf (omega (arith, c.requires.tree.room)))
    ∙ leaves-remove c.args.nodes.now c.shift_back.new.nodes c.args.first_leaf c.args.len c.args.place c.requires.tree.halves (omega (arith, c.shift_back.auto.nodes)) c.requires.tree.room c.requires.within c.shift_back.ensures
