use Rattle.ranked_index.proofs.Prelude.{◌∙◌, ◌+◌, ◌/◌, set, arith, length-set, get_or-set_other}
use Rattle.ranked_index.specs.Tree.{zero_node}
use Rattle.ranked_index.proofs.LeafLemmas.{same_past, least_tree-again, leaves-set}
use Rattle.ranked_index.proofs.tree.set_leaf.Goals as goal

pub returns-clause-tree : goal.returns-clause-tree
returns-clause-tree c =
    let leaf = c.args.first_leaf + c.args.place in
    let written = set c.args.nodes.now leaf c.args.n in
    least_tree-again c.args.nodes.now c.settle_path.new.nodes c.args.first_leaf c.args.len c.args.len c.requires.tree
    (omega (arith, c.settle_path.auto.nodes, length-set c.args.nodes.now leaf c.args.n)) c.requires.tree.room c.settle_path.ensures.tree
    (λ i from to. same_past (leaf / 2) written c.settle_path.new.nodes c.settle_path.ensures.past i (omega (arith, c.requires.tree.room))
    ∙ get_or-set_other c.args.nodes.now leaf i c.args.n zero_node (omega (arith, c.requires.within)) ∙ c.requires.tree.unused i from to)

pub returns-clause-leaves : goal.returns-clause-leaves
returns-clause-leaves c =
    leaves-set c.args.nodes.now c.settle_path.new.nodes c.args.first_leaf c.args.len c.args.place c.args.n
    (c.settle_path.ensures.past c.args.first_leaf (omega (arith, c.requires.tree.room))) c.requires.within
