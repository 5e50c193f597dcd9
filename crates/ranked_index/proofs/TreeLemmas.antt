-- Nodes and the leaves below them, by one of their keys.
use Rattle.ranked_index.proofs.Prelude.{◌≡◌, ℕ, zero, suc, ◌+◌, ◌*◌, ◌/◌, ◌%◌, ◌<◌, ◌≤◌, inl, inr, List, length, min, refl, ap, ◌∙◌, subst, arith, cases_lt}
use Rattle.ranked_index.specs.declared.tree.Key.{Key}
use Rattle.ranked_index.specs.declared.tree.Key.TheVariants.{Resume, Due}
use Rattle.ranked_index.specs.declared.tree.Node.{Node}
use Rattle.ranked_index.specs.Tree.{doubled, lesser_node, number_at, number_by, IsPowerOfTwo, IsTree, AreGreater, IsFirstAtMost, IsSubtreeAtMost}
use Rattle.ranked_index.proofs.Doubled.{doubled-ge, doubled-le, doubled-lt, doubled-next, IsHalved, halved_power}

lesser-key : (key : Key) (left right : Node) → number_by key (lesser_node left right) ≡ min (number_by key left) (number_by key right)
lesser-key Resume left right = refl
lesser-key Due left right = refl

-- a leaf between two places that is a number
pub record IsMet (key : Key) (from to n : ℕ) (nodes : List Node) : Type 0 where
  pub leaf : ℕ
  pub after : from ≤ leaf
  pub before : leaf < to
  pub is : number_at key nodes leaf ≡ n

-- a walk up the levels: the leaves from a place up to those of a node are greater than the bound
pub record IsClimbed (key : Key) (from bound at end : ℕ) (nodes : List Node) : Type 0 where
  pub some : 0 < at
  pub inside : at ≤ end
  pub low : end ≤ length nodes
  pub power : IsPowerOfTwo end
  pub height : ℕ
  pub ended : doubled height end ≡ length nodes
  pub reached : from ≤ doubled height at
  pub greater : AreGreater key from (doubled height at) bound nodes

-- a node between the leaves and the top of a subtree, at this height
pub record IsSubtreeAt (key : Key) (from bound at height : ℕ) (nodes : List Node) : Type 0 where
  pub some : 0 < at
  pub leaves : length nodes ≤ from + from
  pub reached : from ≤ doubled height at
  pub within : doubled height (at + 1) ≤ length nodes
  pub small : number_at key nodes at ≤ bound
  pub greater : AreGreater key from (doubled height at) bound nodes

module _ (key : Key) where
  lesser-by : (nodes : List Node) → IsTree nodes → (at : ℕ) → 0 < at → at + at + 1 < length nodes
      → number_at key nodes at ≡ min (number_at key nodes (at + at)) (number_at key nodes (at + at + 1))
  lesser-by nodes tree at some inner = ap (number_by key) (tree.lesser at some inner) ∙ lesser-key key _ _

  -- no leaf below a node is less than it
  pub node-le : (nodes : List Node) → IsTree nodes → (height at : ℕ) → 0 < at → doubled height (at + 1) ≤ length nodes
      → (leaf : ℕ) → doubled height at ≤ leaf → leaf < doubled height (at + 1) → number_at key nodes at ≤ number_at key nodes leaf
  node-le nodes tree zero at some within leaf from to =
      let same : leaf ≡ at = omega arith in omega (arith, ap (number_at key nodes) same)
  node-le nodes tree (suc height) at some within leaf from to =
      let end = doubled-next height at in
      let inner : at + at + 1 < length nodes = omega (arith, doubled-ge height (at + at + 1 + 1)) in
      let lesser = lesser-by nodes tree at some inner in
      let last = doubled-lt height (at + at + 1) in
      elim (cases_lt leaf (doubled height (at + at + 1))) [
        | inl left ↦ omega (arith, lesser, node-le nodes tree height (at + at) (omega arith) (omega (arith, end, last)) leaf from left)
        | inr right ↦ omega (arith, lesser, node-le nodes tree height (at + at + 1) (omega arith) (omega (arith, end)) leaf right (omega (arith, end)))
      ]

  -- a node is one of the leaves below it
  pub node_met : (nodes : List Node) → IsTree nodes → (height at : ℕ) → 0 < at → doubled height (at + 1) ≤ length nodes
      → IsMet key (doubled height at) (doubled height (at + 1)) (number_at key nodes at) nodes
  node_met nodes tree zero at some within = record { leaf = at; after = omega arith; before = omega arith; is = refl }
  node_met nodes tree (suc height) at some within =
      let end = doubled-next height at in
      let inner : at + at + 1 < length nodes = omega (arith, doubled-ge height (at + at + 1 + 1)) in
      let lesser = lesser-by nodes tree at some inner in
      let first = doubled-lt height (at + at) in
      let last = doubled-lt height (at + at + 1) in
      elim (cases_lt (number_at key nodes (at + at)) (number_at key nodes (at + at + 1))) [
        | inl less ↦
            let met = node_met nodes tree height (at + at) (omega arith) (omega (arith, end, last)) in
            record { leaf = met.leaf; after = met.after; before = omega (arith, met.before, end, last); is = omega (arith, met.is, lesser, less) }
        | inr more ↦
            let met = node_met nodes tree height (at + at + 1) (omega arith) (omega (arith, end)) in
            record { leaf = met.leaf; after = omega (arith, met.after, first); before = omega (arith, met.before, end); is = omega (arith, met.is, lesser, more) }
      ]

  -- where the node is greater, all leaves below it are
  pub greater_past : (from bound at end : ℕ) (nodes : List Node) → IsTree nodes → (climbed : IsClimbed key from bound at end nodes) → at < end
      → bound < number_at key nodes at → AreGreater key from (doubled climbed.height (at + 1)) bound nodes
  greater_past from bound at end nodes tree climbed less greater i past before =
      let within : doubled climbed.height (at + 1) ≤ length nodes =
      omega (arith, climbed.ended, doubled-le climbed.height (at + 1) end (omega arith)) in
      elim (cases_lt i (doubled climbed.height at)) [
        | inl left ↦ climbed.greater i past left
        | inr right ↦ omega (arith, greater, node-le nodes tree climbed.height at climbed.some within i right before)
      ]

  -- one level up, from a node that begins where the leaves do that are not yet seen
  climbed_to : (from bound at end next : ℕ) (nodes : List Node) → (climbed : IsClimbed key from bound at end nodes) → (above : ℕ) → above + above ≡ next → 0 < next → next ≤ end → at ≤ next
      → 1 < end → AreGreater key from (doubled climbed.height next) bound nodes → (half : ℕ) → half + half ≡ end → IsClimbed key from bound above half nodes
  climbed_to from bound at end next nodes climbed above twice some inside more two greater half halves =
      let halved : IsHalved end = halved_power end climbed.power two in
      let same : halved.half ≡ half = omega (arith, halved.twice) in
      record {
        some = omega arith;
        inside = omega arith;
        low = omega (arith, climbed.low);
        power = record { exponent = halved.power.exponent; is = halved.power.is ∙ same };
        height = suc climbed.height;
        ended = ap (doubled climbed.height) halves ∙ climbed.ended;
        reached = omega (arith, climbed.reached, doubled-le climbed.height at next more, ap (doubled climbed.height) twice);
        greater = λ i past before. greater i past (omega (arith, before, ap (doubled climbed.height) twice));
      }

  -- one level up
  pub climbed_step : (from bound at end : ℕ) (nodes : List Node) → IsTree nodes → (climbed : IsClimbed key from bound at end nodes) → at < end
      → (at % 2 ≡ 1 → bound < number_at key nodes at) → IsClimbed key from bound ((at + 1) / 2) (end / 2) nodes
  climbed_step from bound at end nodes tree climbed less greater =
      let some = climbed.some in
      let halved : IsHalved end = halved_power end climbed.power (omega (arith, some)) in
      let halves : end / 2 + end / 2 ≡ end = omega (arith, halved.twice) in
      elim (cases_lt 0 (at % 2)) [
        | inl odd ↦
            climbed_to from bound at end (at + 1) nodes climbed ((at + 1) / 2) (omega arith) (omega arith) (omega arith) (omega arith) (omega (arith, some))
            (greater_past from bound at end nodes tree climbed less (greater (omega arith))) (end / 2) halves
        | inr even ↦
            climbed_to from bound at end at nodes climbed ((at + 1) / 2) (omega arith) some (omega arith) (omega arith) (omega (arith, some)) climbed.greater (end / 2) halves
      ]

  pub climbed_here : (from bound at end : ℕ) (nodes : List Node) → length nodes ≤ from + from → (climbed : IsClimbed key from bound at end nodes) → at < end
      → number_at key nodes at ≤ bound → IsSubtreeAtMost key from bound at nodes
  climbed_here from bound at end nodes leaves climbed less small = record {
    some = climbed.some;
    height = climbed.height;
    leaves = leaves;
    reached = climbed.reached;
    within = omega (arith, climbed.ended, doubled-le climbed.height (at + 1) end (omega arith));
    small = small;
    greater = climbed.greater;
  }

  at_height : (from bound at : ℕ) (nodes : List Node) → (here : IsSubtreeAtMost key from bound at nodes) → IsSubtreeAt key from bound at here.height nodes
  at_height from bound at nodes here = record {
    some = here.some;
    leaves = here.leaves;
    reached = here.reached;
    within = here.within;
    small = here.small;
    greater = here.greater;
  }

  left_at : (from bound at height : ℕ) (nodes : List Node) → IsSubtreeAt key from bound at height nodes → at + at < length nodes
      → number_at key nodes (at + at) ≤ bound → IsSubtreeAtMost key from bound (at + at) nodes
  left_at from bound at zero nodes here inner small = absurd (omega (arith, here.leaves, here.reached))
  left_at from bound at (suc height) nodes here inner small = record {
    some = omega (arith, here.some);
    height = height;
    leaves = here.leaves;
    reached = here.reached;
    within = omega (arith, here.within, doubled-next height at, doubled-lt height (at + at + 1));
    small = small;
    greater = here.greater;
  }

  right_at : (from bound at height : ℕ) (nodes : List Node) → IsTree nodes → IsSubtreeAt key from bound at height nodes → at + at < length nodes
      → bound < number_at key nodes (at + at) → IsSubtreeAtMost key from bound (at + at + 1) nodes
  right_at from bound at zero nodes tree here inner greater = absurd (omega (arith, here.leaves, here.reached))
  right_at from bound at (suc height) nodes tree here inner greater =
      let end = doubled-next height at in
      let first = doubled-lt height (at + at) in
      let last = doubled-lt height (at + at + 1) in
      let whole : at + at + 1 < length nodes = omega (arith, doubled-ge height (at + at + 1 + 1), here.within, end) in
      let lesser = lesser-by nodes tree at here.some whole in
      record {
        some = omega arith;
        height = height;
        leaves = here.leaves;
        reached = omega (arith, here.reached, first);
        within = omega (arith, here.within, end);
        small = omega (arith, here.small, lesser, greater);
        greater = λ i past before. elim (cases_lt i (doubled height (at + at))) [
          | inl left ↦ here.greater i past left
          | inr right ↦ omega (arith, greater, node-le nodes tree height (at + at) (omega (arith, here.some)) (omega (arith, here.within, end, last)) i right before)
        ];
      }

  pub left_below : (from bound at : ℕ) (nodes : List Node) → at * 2 < length nodes
      → number_at key nodes (at * 2) ≤ bound → IsSubtreeAtMost key from bound at nodes → IsSubtreeAtMost key from bound (at * 2) nodes
  left_below from bound at nodes inner small here =
      let twice : at + at ≡ at * 2 = omega arith in
      subst (λ (n : ℕ). IsSubtreeAtMost key from bound n nodes) twice
      (left_at from bound at here.height nodes (at_height from bound at nodes here) (omega arith) (omega (arith, small, ap (number_at key nodes) twice)))

  pub right_below : (from bound at : ℕ) (nodes : List Node) → IsTree nodes → at * 2 < length nodes
      → bound < number_at key nodes (at * 2) → IsSubtreeAtMost key from bound at nodes → IsSubtreeAtMost key from bound (at * 2 + 1) nodes
  right_below from bound at nodes tree inner greater here =
      let twice : at + at ≡ at * 2 = omega arith in
      subst (λ (n : ℕ). IsSubtreeAtMost key from bound (n + 1) nodes) twice
      (right_at from bound at here.height nodes tree (at_height from bound at nodes here) (omega arith) (omega (arith, greater, ap (number_at key nodes) twice)))

  leaf_at : (from bound at height : ℕ) (nodes : List Node) → IsSubtreeAt key from bound at height nodes → length nodes ≤ at + at → IsFirstAtMost key from bound at nodes
  leaf_at from bound at zero nodes here outer = record {
    reached = here.reached;
    within = omega (arith, here.within);
    small = here.small;
    greater = here.greater;
  }
  leaf_at from bound at (suc height) nodes here outer =
      absurd (omega (arith, here.within, outer, doubled-next height at, doubled-ge height (at + at + 1 + 1)))

  -- a subtree of one leaf
  pub leaf_below : (from bound at : ℕ) (nodes : List Node) → length nodes ≤ at + at → IsSubtreeAtMost key from bound at nodes → IsFirstAtMost key from bound at nodes
  leaf_below from bound at nodes outer here = leaf_at from bound at here.height nodes (at_height from bound at nodes here) outer
