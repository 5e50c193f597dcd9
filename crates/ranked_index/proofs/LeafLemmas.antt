-- Leaves that are written.
use Rattle.ranked_index.proofs.Prelude.{◌≡◌, ℕ, ◌+◌, ◌<◌, ◌≤◌, List, length, take, drop, set, sym, ap, ◌∙◌, arith, drop-set-add, get_or-drop, get_or-take, ext_get_or, length-take-le, length-drop, length-insert, insert}
use Rattle.std.proofs.Math.Seq.{take-set-lt}
use Rattle.std.specs.Prelude.{get_or}
use Rattle.ranked_index.specs.declared.tree.Node.{Node}
use Rattle.ranked_index.specs.Tree.{no_node, zero_node, node_at, IsTree, IsLeastTree, IsShifted}
use Rattle.ranked_index.proofs.RankLemmas.{insert-before, insert-here, insert-past, placed, Before, Here, Past}

-- what is the same past a place
pub same_past : (last : ℕ) (old new : List Node) → ((place : ℕ) → last < place → drop place new ≡ drop place old)
    → (i : ℕ) → last < i → node_at new i ≡ node_at old i
same_past last old new same i past =
    let here : i ≡ i + 0 = omega arith in
    ap (node_at new) here ∙ sym (get_or-drop i new 0 zero_node) ∙ ap (λ (xs : List Node). get_or xs 0 zero_node) (same i past)
    ∙ get_or-drop i old 0 zero_node ∙ ap (node_at old) (sym here)

-- a leaf in use is the one at its place
pub leaf_at-place : (nodes : List Node) (first_leaf len i : ℕ) → i < len → get_or (take len (drop first_leaf nodes)) i zero_node ≡ node_at nodes (first_leaf + i)
leaf_at-place nodes first_leaf len i within =
    get_or-take len (drop first_leaf nodes) i zero_node within ∙ get_or-drop first_leaf nodes i zero_node

pub length_leaves : (nodes : List Node) (first_leaf len : ℕ) → length nodes ≡ first_leaf + first_leaf → len ≤ first_leaf → length (take len (drop first_leaf nodes)) ≡ len
length_leaves nodes first_leaf len halves room =
    length-take-le len (drop first_leaf nodes) (omega (arith, length-drop first_leaf nodes))

pub leaves-set : (old new : List Node) (first_leaf len place : ℕ) (n : Node) → drop first_leaf new ≡ drop first_leaf (set old (first_leaf + place) n) → place < len
    → take len (drop first_leaf new) ≡ set (take len (drop first_leaf old)) place n
leaves-set old new first_leaf len place n same within =
    ap (take len) (same ∙ drop-set-add first_leaf old place n) ∙ take-set-lt len (drop first_leaf old) place n within

-- a whole tree again, where those past the leaves in use are no leaves
pub least_tree-again : (old new : List Node) (first_leaf len len' : ℕ) → IsLeastTree old first_leaf len → length new ≡ length old → len' ≤ first_leaf → IsTree new
    → ((leaf : ℕ) → first_leaf + len' ≤ leaf → leaf < length old → node_at new leaf ≡ no_node) → IsLeastTree new first_leaf len'
least_tree-again old new first_leaf len len' is same room tree unused = record {
  halves = same ∙ is.halves;
  power = λ some. record { exponent = (is.power some).exponent; is = (is.power some).is ∙ sym same };
  room = room;
  tree = tree;
  unused = λ leaf from to. unused leaf from (omega arith);
}

-- the leaves from a place on, one further
pub leaves-insert : (old new : List Node) (first_leaf len place : ℕ) (n : Node) → length old ≡ first_leaf + first_leaf → length new ≡ length old → len < first_leaf → place ≤ len
    → IsShifted old new (first_leaf + place) (first_leaf + len) n → take (len + 1) (drop first_leaf new) ≡ insert (take len (drop first_leaf old)) place n
leaves-insert old new first_leaf len place n halves same room within shifted =
    let leaves = take len (drop first_leaf old) in
    let long : length leaves ≡ len = length_leaves old first_leaf len halves (omega arith) in
    let longer : length (take (len + 1) (drop first_leaf new)) ≡ len + 1 = length_leaves new first_leaf (len + 1) (same ∙ halves) (omega arith) in
    let inside : place ≤ length leaves = omega arith in
    ext_get_or zero_node (take (len + 1) (drop first_leaf new)) (insert leaves place n)
    (omega (arith, longer, length-insert leaves place n inside))
    (λ i below.
    let here : get_or (take (len + 1) (drop first_leaf new)) i zero_node ≡ node_at new (first_leaf + i) = leaf_at-place new first_leaf (len + 1) i (omega arith) in
    elim (placed place i) [
      | Before low ↦
          here ∙ shifted.before (first_leaf + i) (omega arith) ∙ sym (leaf_at-place old first_leaf len i (omega arith)) ∙ sym (insert-before leaves place n zero_node inside i low)
      | Here at ↦ here ∙ ap (λ (k : ℕ). node_at new (first_leaf + k)) at ∙ shifted.here ∙ sym (insert-here leaves place n zero_node inside i at)
      | Past j next high ↦
          let one : first_leaf + i ≡ first_leaf + j + 1 = omega arith in
          here ∙ ap (node_at new) one ∙ shifted.moved (first_leaf + j) (omega arith) (omega arith)
          ∙ sym (leaf_at-place old first_leaf len j (omega arith)) ∙ sym (insert-past leaves place n zero_node inside i j next high)
    ])
