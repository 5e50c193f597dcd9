-- Leaves and their keys where one is added, changed or taken back.
use Rattle.ranked_index.proofs.Prelude.{◌≡◌, ◌∙◌, ℕ, zero, suc, ◌+◌, ◌<◌, ◌≤◌, Bool, true, false, List, [], ◌∷◌, ◌++◌, length, get_or, take, set, map, Option, Some, None, refl, sym, ap, subst, arith, length-set, le-leb, lt-leb, get_or_default, get_or-map, length-map, length_push, length-take-le, same_lists, length-insert, length-remove, insert, remove, range_with_len, option_map, slice_index, or_else}
use Rattle.std.proofs.lemmas.List.FromFn.{get_or-map-range_with_len, length-range_with_len}
use Rattle.ranked_index.specs.Keys.{filled, first_at_most, is_at_most, least_place}
use Rattle.ranked_index.specs.Ranked.{AreKeys}
use Rattle.ranked_index.proofs.EntryLemmas.{by_rank-insert, by_rank-remove, by_rank-set}
use Rattle.ranked_index.proofs.RankLemmas.{rank_in-is, ranking-insert, ranking-remove}
use Rattle.ranked_index.specs.declared.resumes.Leaf.{Leaf}
use Rattle.ranked_index.specs.Leaves.{due_from, keys_by_rank, leaf_with, leaves_filled, no_leaf, top, PlainResumes}
use Rattle.ranked_index.specs.Ranks.{due_at, due_key, leaf_of, leaves_by, rank_in, resume_key, AreKept, IsLeaf}
use Rattle.ranked_index.specs.Tree.{key_in, key_of, no_node}
use Rattle.ranked_index.specs.declared.tree.Key.{Key}
use Rattle.ranked_index.specs.declared.tree.Key.TheVariants.{Resume, Due}
use Rattle.ranked_index.specs.declared.tree.Node.{Node}

-- leaves that the keys fit are those of the keys
leaves_by-are : (leaves : List Leaf) (order : List ℕ) (row : List Node) → AreKept leaves order row → leaves ≡ leaves_by order row
leaves_by-are leaves order row are =
    let at_number : ℕ → Leaf = λ number. leaf_of (get_or row (rank_in order number) no_node) in
    same_lists leaves (leaves_by order row) (omega (arith, are.long, length-map (range_with_len 0 (length order)) at_number, length-range_with_len 0 (length order)))
    (λ number d within.
    let in_order : number < length order = omega (arith, are.long) in
    let at = rank_in-is order are.ranking number in_order in
    ap (λ (n : ℕ). get_or leaves n d) (sym at.1) ∙ sym (are.kept.row_at d (rank_in order number) at.0).is
    ∙ sym (get_or-map-range_with_len at_number 0 (length order) number number d in_order (omega arith)))

-- what a contract sees of the keys
pub view-is : (leaves : List Leaf) (order : List ℕ) (row : List Node) → AreKept leaves order row
    → ◌≡◌ {A = PlainResumes} (record { leaves = leaves_by order row; order = order }) (record { leaves = leaves; order = order })
view-is leaves order row are = λ i. record { leaves = sym (leaves_by-are leaves order row are) i; order = order }

pub kept-again : (leaves : List Leaf) (order : List ℕ) (row : List Node) → AreKept leaves order row → AreKept (leaves_by order row) order row
kept-again leaves order row are = subst (λ (leaves : List Leaf). AreKept leaves order row) (leaves_by-are leaves order row are) are

-- a key of the nodes is that of the leaves by rank
keys-are : (by : Key) (key : Leaf → Option ℕ) → ((leaf : Leaf) (node : Node) → IsLeaf leaf node → key_in by node ≡ key leaf) → (leaves : List Leaf) (order : List ℕ) (row : List Node) → AreKept leaves order row
    → AreKeys key leaves order (map (key_in by) row)
keys-are by key same leaves order row are = record {
  long = length-map row (key_in by) ∙ are.kept.long;
  key_at = λ d rank within. get_or-map (key_in by) row rank no_node None (omega (arith, are.kept.long)) ∙ same _ _ (are.kept.row_at d rank within);
}

pub resumes-are : (leaves : List Leaf) (order : List ℕ) (row : List Node) → AreKept leaves order row → AreKeys resume_key leaves order (map (key_in Resume) row)
resumes-are = keys-are Resume resume_key (λ leaf node is. ap resume_key is.is)

-- the keys are those of the leaves by rank
keys-ranked : (key : Leaf → Option ℕ) (leaves : List Leaf) (order : List ℕ) (keys : List (Option ℕ)) → AreKeys key leaves order keys → keys ≡ keys_by_rank key (record { leaves = leaves; order = order })
keys-ranked key leaves order keys are =
    let at : ℕ → Option ℕ = λ number. key (get_or leaves number no_leaf) in
    same_lists keys (map at order) (are.long ∙ sym (length-map order at))
    (λ rank d within.
    let below : rank < length order = omega (arith, are.long) in
    get_or_default keys rank d None within ∙ are.key_at no_leaf rank below ∙ sym (get_or-map at order rank 0 d below))

pub top-ranked : (leaves : List Leaf) (order : List ℕ) (row : List Node) → AreKept leaves order row
    → option_map (slice_index order) (least_place (map (key_in Resume) row)) ≡ top (record { leaves = leaves; order = order })
top-ranked leaves order row are =
    ap (λ (keys : List (Option ℕ)). option_map (slice_index order) (least_place keys)) (keys-ranked resume_key leaves order (map (key_in Resume) row) (resumes-are leaves order row are))

pub due-ranked : (leaves : List Leaf) (order : List ℕ) (row : List Node) (from high : ℕ) → AreKept leaves order row
    → option_map (slice_index order) (or_else (first_at_most from high (map (key_in Due) row)) (first_at_most 0 high (map (key_in Due) row))) ≡ due_from from high (record { leaves = leaves; order = order })
due-ranked leaves order row from high are =
    ap (λ (keys : List (Option ℕ)). option_map (slice_index order) (or_else (first_at_most from high keys) (first_at_most 0 high keys)))
    (keys-ranked due_key leaves order (map (key_in Due) row) (keys-are Due due_key (λ leaf node is. is.due) leaves order row are))

-- a closed leaf has nothing to acknowledge, which its key doesn't tell
pub due-with : (resume : Option ℕ) (is_unacknowledged : Bool) → due_at resume is_unacknowledged ≡ due_key (leaf_with resume is_unacknowledged)
due-with None is_unacknowledged = refl
due-with (Some resume) true = refl
due-with (Some resume) false = refl

told-with : (resume : Option ℕ) (is_unacknowledged : Bool) → is_at_most 0 (due_at resume is_unacknowledged) ≡ (leaf_with resume is_unacknowledged).is_unacknowledged
told-with None is_unacknowledged = refl
told-with (Some resume) true = le-leb 0 0 (omega arith)
told-with (Some resume) false = lt-leb (resume + 1) 0 (omega arith)

-- the keys of a leaf
pub is_leaf : (resume : Option ℕ) (is_unacknowledged : Bool) (node : Node) → key_of node.resume ≡ resume → key_of node.due ≡ due_at resume is_unacknowledged → IsLeaf (leaf_with resume is_unacknowledged) node
is_leaf resume is_unacknowledged node resumes due =
    let told : is_at_most 0 (key_of node.due) ≡ (leaf_with resume is_unacknowledged).is_unacknowledged = ap (is_at_most 0) due ∙ told-with resume is_unacknowledged in
    record { is = λ i. record { resume = resumes i; is_unacknowledged = told i }; due = due ∙ due-with resume is_unacknowledged }

module _ (leaves : List Leaf) (order : List ℕ) (row : List Node) (are : AreKept leaves order row) where
  -- one leaf more
  pub kept-push : (rank : ℕ) (leaf : Leaf) (node : Node) → IsLeaf leaf node → rank ≤ length order → AreKept (leaves ++ leaf ∷ []) (insert order rank (length order)) (insert row rank node)
  kept-push rank leaf node is fits = record {
    long = omega (arith, are.long, length-insert order rank (length order) fits, length_push leaves leaf);
    ranking = ranking-insert order are.ranking rank fits;
    kept = by_rank-insert leaves order rank leaf are.long are.ranking fits IsLeaf no_node node row are.kept is;
  }

  -- another leaf
  pub kept-set : (number rank : ℕ) (leaf : Leaf) (node : Node) → IsLeaf leaf node → number < length leaves → rank < length order → slice_index order rank ≡ number → AreKept (set leaves number leaf) order (set row rank node)
  kept-set number rank leaf node is within inside at = record {
    long = are.long ∙ sym (length-set leaves number leaf);
    ranking = are.ranking;
    kept = by_rank-set leaves order number leaf within IsLeaf no_node node row are.ranking are.kept rank inside at is;
  }

  -- the last leaf taken back
  pub kept-pop : (last rank : ℕ) → rank < length order → slice_index order rank + 1 ≡ length order → last + 1 ≡ length order → AreKept (take last leaves) (remove order rank) (remove row rank)
  kept-pop last rank within at end = record {
    long = omega (arith, length-remove order rank within, end, length-take-le last leaves (omega (arith, are.long)));
    ranking = ranking-remove order are.ranking rank within at;
    kept = by_rank-remove leaves order last rank are.ranking within at end IsLeaf no_node row are.kept;
  }

-- the same leaf at ranks that follow one another
pub kept-filled : (leaves : List Leaf) (order : List ℕ) (row : List Node) → AreKept leaves order row → (from count : ℕ) (leaf : Leaf) (node : Node) → IsLeaf leaf node → from + count ≤ length order
    → AreKept (leaves_filled order from count leaf leaves) order (filled from count node row)
kept-filled leaves order row are from zero leaf node is fits = are
kept-filled leaves order row are from (suc count) leaf node is fits =
    let rank = from + count in
    let within : rank < length order = omega arith in
    let before = kept-filled leaves order row are from count leaf node is (omega arith) in
    kept-set (leaves_filled order from count leaf leaves) order (filled from count node row) before (slice_index order rank) rank leaf node is
    (omega (arith, before.long, before.ranking.inverse.number_within rank within)) within refl
