-- Leaves of which one is taken out.
use Rattle.ranked_index.proofs.Prelude.{◌≡◌, ℕ, ◌+◌, ◌-◌, ◌<◌, ◌≤◌, inl, inr, List, length, take, drop, sym, ap, ◌∙◌, arith, cases_lt, ext_get_or, length-remove, get_or-remove_below, get_or-remove_above, remove}
use Rattle.std.specs.Prelude.{get_or}
use Rattle.ranked_index.specs.declared.tree.Node.{Node}
use Rattle.ranked_index.specs.Tree.{zero_node, node_at, IsShiftedBack}
use Rattle.ranked_index.proofs.LeafLemmas.{leaf_at-place, length_leaves}

-- the leaves past a place, one back
pub leaves-remove : (old new : List Node) (first_leaf len place : ℕ) → length old ≡ first_leaf + first_leaf → length new ≡ length old → len ≤ first_leaf → place < len
    → IsShiftedBack old new (first_leaf + place) (first_leaf + len) → take (len - 1) (drop first_leaf new) ≡ remove (take len (drop first_leaf old)) place
leaves-remove old new first_leaf len place halves same room within shifted =
    let leaves = take len (drop first_leaf old) in
    let long : length leaves ≡ len = length_leaves old first_leaf len halves room in
    let shorter : length (take (len - 1) (drop first_leaf new)) ≡ len - 1 = length_leaves new first_leaf (len - 1) (same ∙ halves) (omega arith) in
    let inside : place < length leaves = omega arith in
    ext_get_or zero_node (take (len - 1) (drop first_leaf new)) (remove leaves place)
    (omega (arith, shorter, length-remove leaves place inside))
    (λ i below.
    let here : get_or (take (len - 1) (drop first_leaf new)) i zero_node ≡ node_at new (first_leaf + i) = leaf_at-place new first_leaf (len - 1) i (omega arith) in
    elim (cases_lt i place) [
      | inl before ↦
          here ∙ shifted.before (first_leaf + i) (omega arith) ∙ sym (leaf_at-place old first_leaf len i (omega arith))
          ∙ sym (get_or-remove_below leaves place zero_node i before inside)
      | inr after ↦
          let one : first_leaf + i + 1 ≡ first_leaf + (i + 1) = omega arith in
          here ∙ shifted.moved (first_leaf + i) (omega arith) (omega arith) ∙ ap (node_at old) one
          ∙ sym (leaf_at-place old first_leaf len (i + 1) (omega arith))
          ∙ sym (get_or-remove_above leaves place zero_node i after inside)
    ])
