-- The least key and the first that is at most a bound, from the nodes.
use Rattle.ranked_index.proofs.Prelude.{◌≡◌, ℕ, ◌+◌, ◌-◌, ◌<◌, ◌≤◌, inl, inr, Bool, true, false, cond, List, length, take, drop, map, min, get_or, Option, Some, None, refl, sym, ap, ◌∙◌, arith, cases_lt, lt-ltb, le-ltb, le-leb, lt-leb, get_or-drop, get_or-map, length-drop, length-map, same_Some, first_at-nowhere, first_at-there}
use Rattle.ranked_index.specs.Keys.{least_key, is_at_most, first_at_most}
use Rattle.ranked_index.specs.declared.tree.Key.{Key}
use Rattle.ranked_index.specs.declared.tree.Key.TheVariants.{Resume, Due}
use Rattle.ranked_index.specs.declared.tree.Node.{Node}
use Rattle.ranked_index.specs.Tree.{no_key, no_node, zero_node, node_at, key_in, key_of, number_at, number_by, doubled, IsLeastTree, AreGreater, IsFirstAtMost}
use Rattle.ranked_index.proofs.Doubled.{doubled-twice, halved_power}
use Rattle.ranked_index.proofs.TreeLemmas.{node-le, node_met, IsMet}
use Rattle.ranked_index.proofs.LeafLemmas.{leaf_at-place, length_leaves}
use Rattle.ranked_index.proofs.LeastKeys.{least-same, least_key-is, IsLeast}

-- a key of the leaves
abbrev pub keys_of : Key → List Node → ℕ → ℕ → List (Option ℕ)
keys_of key nodes first_leaf len = map (key_in key) (take len (drop first_leaf nodes))

key_of-some : (n : ℕ) → n < no_key → key_of n ≡ Some n
key_of-some n less = ap (λ (b : Bool). cond b (Some n) None) (lt-ltb n no_key less)

key_of-none : (n : ℕ) → no_key ≤ n → key_of n ≡ None
key_of-none n more = ap (λ (b : Bool). cond b (Some n) None) (le-ltb n no_key more)

-- what has a key is that number
key_of-met : (n k : ℕ) → key_of n ≡ Some k → (n ≡ k) × (n < no_key)
key_of-met n k is = elim (cases_lt n no_key) [
  | inl some ↦ (same_Some n k (sym (key_of-some n some) ∙ is), some)
  | inr none ↦ let nothing : None ≡ Some k = sym (key_of-none n none) ∙ is in absurd (cc)
]

no-number : (key : Key) → number_by key no_node ≡ no_key
no-number Resume = refl
no-number Due = refl

-- the keys from a place on
key-from : (key : Key) (nodes : List Node) (first_leaf len from i : ℕ) → length nodes ≡ first_leaf + first_leaf → len ≤ first_leaf → from + i < len
    → get_or (drop from (keys_of key nodes first_leaf len)) i None ≡ key_of (number_at key nodes (first_leaf + from + i))
key-from key nodes first_leaf len from i halves room within =
    let long = length_leaves nodes first_leaf len halves room in
    let same : first_leaf + (from + i) ≡ first_leaf + from + i = omega arith in
    get_or-drop from (keys_of key nodes first_leaf len) i None
    ∙ get_or-map (key_in key) (take len (drop first_leaf nodes)) (from + i) zero_node None (omega (arith, long))
    ∙ ap (key_in key) (leaf_at-place nodes first_leaf len (from + i) within ∙ ap (node_at nodes) same)

length-from : (key : Key) (nodes : List Node) (first_leaf len from : ℕ) → length nodes ≡ first_leaf + first_leaf → len ≤ first_leaf
    → length (drop from (keys_of key nodes first_leaf len)) ≡ len - from
length-from key nodes first_leaf len from halves room =
    length-drop from (keys_of key nodes first_leaf len)
    ∙ ap (λ (n : ℕ). n - from) (length-map (take len (drop first_leaf nodes)) (key_in key) ∙ length_leaves nodes first_leaf len halves room)

-- the root is the least of the leaves
pub least_key-root : (key : Key) (nodes : List Node) (first_leaf len : ℕ) → IsLeastTree nodes first_leaf len → 0 < first_leaf
    → key_of (number_at key nodes 1) ≡ least_key (keys_of key nodes first_leaf len)
least_key-root key nodes first_leaf len is some =
    let halves = is.halves in
    let half = halved_power (length nodes) (is.power some) (omega (arith, halves)) in
    let height = half.power.exponent in
    let start : doubled height 1 ≡ first_leaf = omega (arith, half.twice, half.power.is) in
    let end : doubled height (1 + 1) ≡ length nodes = doubled-twice height 1 ∙ omega (arith, start) in
    let root = number_at key nodes 1 in
    let keys = keys_of key nodes first_leaf len in
    let long : length keys ≡ len = omega (arith, length-from key nodes first_leaf len 0 halves is.room) in
    let met : IsMet key (doubled height 1) (doubled height (1 + 1)) root nodes = node_met key nodes is.tree height 1 (omega arith) (omega arith) in
    let least : IsLeast (key_of root) keys = record {
      met = λ k same.
          let own = key_of-met root k same in
          let inside : met.leaf < first_leaf + len = elim (cases_lt met.leaf (first_leaf + len)) [
            | inl used ↦ used
            | inr unused ↦ absurd (omega (arith, own.1, met.is, ap (number_by key) (is.unused met.leaf unused (omega (arith, met.before))), no-number key))
          ] in
          let after : first_leaf ≤ met.leaf = omega (arith, met.after, start) in
          let there : first_leaf + 0 + (met.leaf - first_leaf) ≡ met.leaf = omega arith in
          record {
            at = met.leaf - first_leaf;
            within = omega (arith, long);
            is = key-from key nodes first_leaf len 0 (met.leaf - first_leaf) halves is.room (omega arith) ∙ ap (λ (k : ℕ). key_of (number_at key nodes k)) there ∙ ap key_of met.is ∙ same;
          };
      lower = λ i k within there.
          let inside : 0 + i < len = omega (arith, long) in
          let own = key_of-met (number_at key nodes (first_leaf + 0 + i)) k (sym (key-from key nodes first_leaf len 0 i halves is.room inside) ∙ there) in
          let le = node-le key nodes is.tree height 1 (omega arith) (omega arith) (first_leaf + 0 + i) (omega (arith, start)) (omega (arith, is.room)) in
          record { low = root; is = key_of-some root (omega (arith, own.1, le)); le = omega (arith, own.0, le) };
    } in
    least-same (key_of root) (least_key keys) keys least (least_key-is keys)

at_most-key_of : (bound leaf : ℕ) → leaf ≤ min bound (no_key - 1) → is_at_most bound (key_of leaf) ≡ true
at_most-key_of bound leaf small = ap (is_at_most bound) (key_of-some leaf (omega arith)) ∙ le-leb leaf bound (omega arith)

greater-key_of : (bound leaf : ℕ) → min bound (no_key - 1) < leaf → is_at_most bound (key_of leaf) ≡ false
greater-key_of bound leaf greater =
    elim (cases_lt leaf no_key) [
      | inl some ↦ ap (is_at_most bound) (key_of-some leaf some) ∙ lt-leb leaf bound (omega arith)
      | inr none ↦ ap (is_at_most bound) (key_of-none leaf none)
    ]

pub first_at_most-none : (key : Key) (nodes : List Node) (first_leaf len from bound : ℕ) → IsLeastTree nodes first_leaf len
    → AreGreater key (first_leaf + from) (length nodes) (min bound (no_key - 1)) nodes → first_at_most from bound (keys_of key nodes first_leaf len) ≡ None
first_at_most-none key nodes first_leaf len from bound is greater =
    let long = length-from key nodes first_leaf len from is.halves is.room in
    first_at-nowhere (is_at_most bound) from (drop from (keys_of key nodes first_leaf len)) None
    (λ i within.
    let inside : from + i < len = omega (arith, long) in
    ap (is_at_most bound) (key-from key nodes first_leaf len from i is.halves is.room inside)
    ∙ greater-key_of bound (number_at key nodes (first_leaf + from + i)) (greater (first_leaf + from + i) (omega arith) (omega (arith, is.halves, is.room))))

-- a leaf that has a key is in use
pub used : (key : Key) (nodes : List Node) (first_leaf len from bound leaf : ℕ) → IsLeastTree nodes first_leaf len
    → IsFirstAtMost key (first_leaf + from) (min bound (no_key - 1)) leaf nodes → leaf < first_leaf + len
used key nodes first_leaf len from bound leaf is first =
    elim (cases_lt leaf (first_leaf + len)) [
      | inl inside ↦ inside
      | inr outside ↦ absurd (omega (arith, ap (number_by key) (is.unused leaf outside first.within), no-number key, first.small))
    ]

pub first_at_most-some : (key : Key) (nodes : List Node) (first_leaf len from bound leaf : ℕ) → IsLeastTree nodes first_leaf len
    → IsFirstAtMost key (first_leaf + from) (min bound (no_key - 1)) leaf nodes → first_at_most from bound (keys_of key nodes first_leaf len) ≡ Some (leaf - first_leaf)
first_at_most-some key nodes first_leaf len from bound leaf is first =
    let long = length-from key nodes first_leaf len from is.halves is.room in
    let inside = used key nodes first_leaf len from bound leaf is first in
    let reached = first.reached in
    let j = leaf - first_leaf - from in
    let here : first_leaf + from + j ≡ leaf = omega arith in
    first_at-there (is_at_most bound) from (drop from (keys_of key nodes first_leaf len)) None j (omega (arith, long))
    (ap (is_at_most bound) (key-from key nodes first_leaf len from j is.halves is.room (omega arith) ∙ ap (λ (k : ℕ). key_of (number_at key nodes k)) here)
    ∙ at_most-key_of bound (number_at key nodes leaf) first.small)
    (λ i before.
    let still : from + i < len = omega arith in
    ap (is_at_most bound) (key-from key nodes first_leaf len from i is.halves is.room still)
    ∙ greater-key_of bound (number_at key nodes (first_leaf + from + i)) (first.greater (first_leaf + from + i) (omega arith) (omega arith)))
    ∙ ap Some (let same : from + j ≡ leaf - first_leaf = omega arith in same)
