-- Nodes that are made the lesser of their children, row by row.
use Rattle.ranked_index.proofs.Prelude.{◌≡◌, ◌≢◌, ℕ, ◌+◌, ◌*◌, ◌/◌, ◌<◌, ◌≤◌, ◌⊎◌, inl, inr, List, length, set, sym, ap, ap₂, ◌∙◌, subst, arith, length-set, get_or-set_same, get_or-set_other, cases_eq, cases_lt}
use Rattle.ranked_index.specs.declared.tree.Node.{Node}
use Rattle.ranked_index.specs.Tree.{lesser_node, zero_node, node_at, IsLesser, IsTreeBut}

-- a row from first to last, settled up to a place: only the nodes from there on, and the parents of the row,
-- may not be the lesser of their children
pub record IsSettled (first last at : ℕ) (nodes : List Node) : Type 0 where
  pub lesser : (x : ℕ) → 0 < x → x + x + 1 < length nodes → (x < at) ⊎ (last < x) → (x < first / 2) ⊎ (last / 2 < x) → IsLesser nodes x

-- a node is still the lesser of its children where none of the three is written
kept : (nodes : List Node) (at : ℕ) (n : Node) (x : ℕ) → x ≢ at → x + x ≢ at → x + x + 1 ≢ at → IsLesser nodes x → IsLesser (set nodes at n) x
kept nodes at n x node left right lesser =
    get_or-set_other nodes at x n zero_node node ∙ lesser
    ∙ sym (ap₂ lesser_node (get_or-set_other nodes at (x + x) n zero_node left) (get_or-set_other nodes at (x + x + 1) n zero_node right))

-- a node that is written
made : (nodes : List Node) (at : ℕ) (n : Node) → 0 < at → at + at + 1 < length nodes → n ≡ lesser_node (node_at nodes (2 * at)) (node_at nodes (2 * at + 1))
    → IsLesser (set nodes at n) at
made nodes at n some inner is =
    let left : node_at nodes (2 * at) ≡ node_at nodes (at + at) = ap (node_at nodes) (omega arith) in
    let right : node_at nodes (2 * at + 1) ≡ node_at nodes (at + at + 1) = ap (node_at nodes) (omega arith) in
    get_or-set_same nodes at n zero_node (omega arith) ∙ is ∙ ap₂ lesser_node left right
    ∙ sym (ap₂ lesser_node (get_or-set_other nodes at (at + at) n zero_node (omega arith)) (get_or-set_other nodes at (at + at + 1) n zero_node (omega arith)))

-- the next node of the row
pub settled_step : (first last at : ℕ) (n : Node) (nodes : List Node) → n ≡ lesser_node (node_at nodes (2 * at)) (node_at nodes (2 * at + 1)) → first ≤ at → at ≤ last
    → IsSettled first last at nodes → IsSettled first last (at + 1) (set nodes at n)
settled_step first last at n nodes is from to settled = record {
  lesser = λ x some inner outside parents.
      let before : x + x + 1 < length nodes = omega (arith, inner, length-set nodes at n) in
      elim (cases_eq x at) [
        | inl same ↦
            let here : IsLesser (set nodes at n) at = made nodes at n (omega arith) (omega arith) is in
            subst (IsLesser (set nodes at n)) (sym same) here
        | inr other ↦
            let still : (x < at) ⊎ (last < x) = elim outside [ inl below ↦ inl (omega arith) | inr past ↦ inr past ] in
            let lesser = settled.lesser x some before still parents in elim parents [
              | inl below ↦ kept nodes at n x other (omega arith) (omega arith) lesser
              | inr above ↦ kept nodes at n x other (omega arith) (omega arith) lesser
            ]
      ];
}

-- a row of one node
pub settled_node : (at : ℕ) (n : Node) (nodes : List Node) → n ≡ lesser_node (node_at nodes (2 * at)) (node_at nodes (2 * at + 1)) → IsTreeBut at at nodes → IsTreeBut (at / 2) (at / 2) (set nodes at n)
settled_node at n nodes is tree =
    let row : IsSettled at at at nodes = record {
      lesser = λ x some inner outside _. elim outside [ inl before ↦ tree.before x some inner before | inr past ↦ tree.past x some inner past ];
    } in
    let written = settled_step at at at n nodes is (omega arith) (omega arith) row in
    record {
      before = λ x some inner before. written.lesser x some inner (inl (omega arith)) (inl before);
      past = λ x some inner past. written.lesser x some inner (elim (cases_lt at x) [ inl above ↦ inr above | inr below ↦ inl (omega arith) ]) (inr past);
    }
