use Rattle.ranked_index.proofs.Prelude.{◌≡◌, ◌+◌, ◌-◌, List, length, map, min, ap, ◌∙◌, sym, arith}
use Rattle.ranked_index.specs.Keys.{first_at_most}
use Rattle.ranked_index.specs.declared.tree.Node.{Node}
use Rattle.ranked_index.specs.Tree.{key_in, no_key, number_at, AreGreater}
use Rattle.ranked_index.proofs.KeyLemmas.{first_at_most-none, first_at_most-some}
use Rattle.ranked_index.proofs.tree.LeastTree.first_at_most.Goals as goal

pub returns-in_err-leaf-clause-place : goal.returns-in_err-leaf-clause-place
returns-in_err-leaf-clause-place c =
    let t = c.self.inside in
    let most : c.min-most.result ≡ min c.args.bound (no_key - 1) = omega arith in
    let nodes : c.as_slice-nodes.result.now ≡ t.nodes.items = c.as_slice-nodes.ensures.value in
    let greater : AreGreater c.args.key (t.first_leaf + c.args.from) (length t.nodes.items) (min c.args.bound (no_key - 1)) t.nodes.items =
    λ i from to. omega (arith, most, ap (λ (xs : List Node). number_at c.args.key xs i) nodes, c.in_err-leaf.ensures i from (omega (arith, ap length nodes))) in
    c.from_residual.ensures
    ∙ sym (first_at_most-none c.args.key t.nodes.items t.first_leaf t.len c.args.from c.args.bound c.self.invariant greater)
    ∙ ap (λ (row : List Node). first_at_most c.args.from c.args.bound (map (key_in c.args.key) row)) c.self.view_is

pub returns-clause-place : goal.returns-clause-place
returns-clause-place c =
    let t = c.self.inside in
    let leaf = c.in_ok-leaf.leaf in
    let most : c.min-most.result ≡ min c.args.bound (no_key - 1) = omega arith in
    let first = rw (most, c.as_slice-nodes.ensures.value) at c.in_ok-leaf.ensures in
    sym (first_at_most-some c.args.key t.nodes.items t.first_leaf t.len c.args.from c.args.bound leaf c.self.invariant first)
    ∙ ap (λ (row : List Node). first_at_most c.args.from c.args.bound (map (key_in c.args.key) row)) c.self.view_is
