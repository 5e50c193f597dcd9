-- Places that are filled with the same, and the leaves of a tree among them.
use Rattle.ranked_index.proofs.Prelude.{◌≡◌, ◌∙◌, ℕ, zero, suc, ◌+◌, ◌-◌, ◌/◌, ◌<◌, ◌≤◌, ◌⊎◌, inl, inr, List, length, drop, take, set, refl, sym, ap, ap₂, arith, length-set, get_or-set_other}
use Rattle.ranked_index.specs.Keys.{filled}
use Rattle.ranked_index.specs.declared.tree.Node.{Node}
use Rattle.ranked_index.specs.Tree.{lesser_node, zero_node, node_at, IsLesser, IsTree, IsTreeBut}
use Rattle.ranked_index.proofs.LeafLemmas.{leaves-set}

pub length-filled : (from count : ℕ) (n : Node) (xs : List Node) → length (filled from count n xs) ≡ length xs
length-filled from zero n xs = refl
length-filled from (suc count) n xs = length-set (filled from count n xs) (from + count) n ∙ length-filled from count n xs

-- the other places
pub filled-other : (from count : ℕ) (n : Node) (xs : List Node) (i : ℕ) → (i < from) ⊎ (from + count ≤ i) → node_at (filled from count n xs) i ≡ node_at xs i
filled-other from zero n xs i outside = refl
filled-other from (suc count) n xs i outside =
    get_or-set_other (filled from count n xs) (from + count) i n zero_node (λ same. elim outside [ inl low ↦ omega arith | inr past ↦ omega arith ])
    ∙ filled-other from count n xs i (elim outside [ inl low ↦ inl low | inr past ↦ inr (omega arith) ])

pub leaves-filled : (nodes : List Node) (first_leaf len from count : ℕ) (n : Node) → from + count ≤ len → take len (drop first_leaf (filled (first_leaf + from) count n nodes)) ≡ filled from count n (take len (drop first_leaf nodes))
leaves-filled nodes first_leaf len from zero n fits = refl
leaves-filled nodes first_leaf len from (suc count) n fits =
    let was = filled (first_leaf + from) count n nodes in
    let at : first_leaf + from + count ≡ first_leaf + (from + count) = omega arith in
    leaves-set was (set was (first_leaf + from + count) n) first_leaf len (from + count) n (ap (λ (k : ℕ). drop first_leaf (set was k n)) at) (omega arith)
    ∙ ap (λ (leaves : List Node). set leaves (from + count) n) (leaves-filled nodes first_leaf len from count n (omega arith))

-- only the parents of the places may not be the lesser of their children
pub tree-filled : (nodes : List Node) (first_leaf first end : ℕ) (n : Node) → IsTree nodes → length nodes ≡ first_leaf + first_leaf → first_leaf ≤ first → first < end → IsTreeBut (first / 2) ((end - 1) / 2) (filled first (end - first) n nodes)
tree-filled nodes first_leaf first end n tree halves low some = record {
  before = λ at positive inner below. still at positive inner (inl (omega arith)) (inl (omega arith)) (inl (omega arith));
  past = λ at positive inner above. let long = length-filled first (end - first) n nodes in still at positive inner (inl (omega arith)) (inr (omega arith)) (inr (omega arith));
}
  where
    Outside : ℕ → Type 0
    Outside i = (i < first) ⊎ (first + (end - first) ≤ i)

    still : (at : ℕ) → 0 < at → at + at + 1 < length (filled first (end - first) n nodes) → Outside at → Outside (at + at) → Outside (at + at + 1) → IsLesser (filled first (end - first) n nodes) at
    still at positive inner node left right =
        let long = length-filled first (end - first) n nodes in
        filled-other first (end - first) n nodes at node ∙ tree.lesser at positive (omega arith)
        ∙ sym (ap₂ lesser_node (filled-other first (end - first) n nodes (at + at) left) (filled-other first (end - first) n nodes (at + at + 1) right))
