use Rattle.ranked_index.proofs.Prelude.{◌≡◌, ◌+◌, ◌/◌, ◌∙◌, refl, length, drop, sym, ap, arith, take_at}
use Rattle.ranked_index.proofs.LeafLemmas.{same_past}
use Rattle.ranked_index.specs.Tree.{zero_node}
use Rattle.ranked_index.proofs.tree.grown.Goals as goal

pub returns-clause-tree : goal.returns-clause-tree
returns-clause-tree c =
    let items = c.resize-2.new.self.items in
    let new = c.settle.new.nodes in
    let whole : length new ≡ length items = c.settle.auto.nodes ∙ ap length c.as_mut_slice.ensures.value in
    let long : length new ≡ c.resize-2.new.self.len = omega (arith, c.settle.auto.nodes, c.as_mut_slice.ensures.len) in
    let twice : length items ≡ c.args.first_leaf + c.args.first_leaf = omega (arith, long, whole, c.in_ok-resize-2.ensures.len) in
    rw (take_at new (drop (length new) items) c.resize-2.new.self.len long)
    (record {
      halves = whole ∙ twice;
      power = λ some. record { exponent = c.requires.power.exponent; is = c.requires.power.is ∙ sym (whole ∙ twice) };
      room = omega (arith, c.requires.room);
      tree = c.settle.ensures.tree;
      unused = λ i from to.
          same_past ((c.args.first_leaf + length c.args.leaves.now) / 2) items new (λ place less. c.settle.ensures.past place less ∙ ap (drop place) c.as_mut_slice.ensures.value) i (omega arith)
          ∙ c.in_ok-resize-2.ensures.by_index.1 i zero_node refl (omega (arith, c.in_ok-extend_from_slice.ensures.len, c.in_ok-resize.ensures.len)) (omega (arith, to, whole));
    })
