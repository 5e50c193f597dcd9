use Rattle.ranked_index.proofs.Prelude.{◌∙◌, ◌+◌, ◌/◌, take, ap, arith}
use Rattle.ranked_index.proofs.LeafLemmas.{same_past, least_tree-again, leaves-insert}
use Rattle.ranked_index.proofs.tree.insert_leaf.Goals as goal

pub returns-clause-tree : goal.returns-clause-tree
returns-clause-tree c =
    least_tree-again c.args.nodes.now c.settle.new.nodes c.args.first_leaf c.args.len (c.args.len + 1) c.requires.tree
    (omega (arith, c.settle.auto.nodes, c.shift.auto.nodes)) (omega (arith, c.requires.room)) c.settle.ensures.tree
    (λ i from to. same_past ((c.args.first_leaf + c.args.len) / 2) c.shift.new.nodes c.settle.new.nodes c.settle.ensures.past i (omega arith)
    ∙ c.shift.ensures.past i (omega arith) ∙ c.requires.tree.unused i (omega arith) to)

pub returns-clause-leaves : goal.returns-clause-leaves
returns-clause-leaves c =
    ap (take (c.args.len + 1)) (c.settle.ensures.past c.args.first_leaf (omega (arith, c.requires.room)))
    ∙ leaves-insert c.args.nodes.now c.shift.new.nodes c.args.first_leaf c.args.len c.args.place c.args.n c.requires.tree.halves (omega (arith, c.shift.auto.nodes)) c.requires.room c.requires.within c.shift.ensures
