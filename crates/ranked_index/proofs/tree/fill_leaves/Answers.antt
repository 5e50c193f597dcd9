use Rattle.ranked_index.proofs.Prelude.{◌≡◌, ◌∙◌, ℕ, ◌+◌, ◌-◌, ◌/◌, inr, List, drop, take, sym, ap, subst, arith}
use Rattle.std.specs.Prelude.{length}
use Rattle.ranked_index.specs.Keys.{filled}
use Rattle.ranked_index.specs.Tree.{node_at, IsTreeBut}
use Rattle.ranked_index.specs.declared.tree.Node.{Node}
use Rattle.ranked_index.proofs.FillLemmas.{filled-other, leaves-filled, length-filled, tree-filled}
use Rattle.ranked_index.proofs.LeafLemmas.{same_past, least_tree-again}
use Rattle.ranked_index.proofs.tree.fill_leaves.Goals as goal

pub settle-requires-clause-tree : goal.settle-requires-clause-tree
settle-requires-clause-tree c =
    let first = c.args.first_leaf + c.args.from in
    let end = c.args.first_leaf + c.args.to in
    let done : end - first ≡ c.loop-leaf.leaf - first = omega arith in
    subst (λ (nodes : List Node). IsTreeBut (first / 2) ((end - 1) / 2) nodes) (ap (λ (count : ℕ). filled first count c.args.n c.args.nodes.now) done ∙ sym c.loop-leaf.invariant)
    (tree-filled c.args.nodes.now c.args.first_leaf first end c.args.n c.requires.tree.tree c.requires.tree.halves (omega arith) (omega arith))

pub returns-clause-tree : goal.returns-clause-tree
returns-clause-tree c =
    let first = c.args.first_leaf + c.args.from in
    let count = c.args.to - c.args.from in
    let done : c.loop-leaf.leaf - first ≡ count = omega arith in
    let written : c.loop-leaf.nodes ≡ filled first count c.args.n c.args.nodes.now = c.loop-leaf.invariant ∙ ap (λ (n : ℕ). filled first n c.args.n c.args.nodes.now) done in
    least_tree-again c.args.nodes.now c.settle.new.nodes c.args.first_leaf c.args.len c.args.len c.requires.tree
    (omega (arith, c.settle.auto.nodes, ap length written, length-filled first count c.args.n c.args.nodes.now)) c.requires.tree.room c.settle.ensures.tree
    (λ i past to. same_past ((c.args.first_leaf + c.args.to - 1) / 2) c.loop-leaf.nodes c.settle.new.nodes c.settle.ensures.past i (omega (arith, c.requires.tree.room)) ∙ ap (λ (nodes : List Node). node_at nodes i) written
    ∙ filled-other first count c.args.n c.args.nodes.now i (inr (omega arith)) ∙ c.requires.tree.unused i past to)

pub returns-clause-leaves : goal.returns-clause-leaves
returns-clause-leaves c =
    let first = c.args.first_leaf + c.args.from in
    let count = c.args.to - c.args.from in
    let done : c.loop-leaf.leaf - first ≡ count = omega arith in
    let written : c.loop-leaf.nodes ≡ filled first count c.args.n c.args.nodes.now = c.loop-leaf.invariant ∙ ap (λ (n : ℕ). filled first n c.args.n c.args.nodes.now) done in
    ap (take c.args.len) (c.settle.ensures.past c.args.first_leaf (omega (arith, c.requires.tree.room)) ∙ ap (drop c.args.first_leaf) written)
    ∙ leaves-filled c.args.nodes.now c.args.first_leaf c.args.len c.args.from count c.args.n (omega arith)
