-- The rows beside the names while those of more names are written.
use Rattle.subscription_table.proofs.Prelude.{AreUnique, ranked-insert, numbers_below, open_leaf, pushed, PlainResumes, entry_at, AreRanked, IsFirstPast, Leaf, ◌≡◌, ◌∙◌, ℕ, ◌+◌, ◌-◌, ◌<◌, ◌≤◌, false, List, [], ◌∷◌, ◌++◌, length, get_or, take, drop, map, Some, sym, subst, ap, ap₂, arith, false_from_ne_true, append_assoc, get_or-drop, get_or-take, length_push, length-take-le, map-append, take_at, take_more, get_or_from_slice_get, slice_get-get_or, slice_get_within, slice_get, slice_index, sub_order, same_sub, sub_lt, is_above}
use Rattle.std.proofs.Common.{length-drop}
use Rattle.std.specs.List.{insert}
use Rattle.ranked_index.specs.Leaves.{truncated}
use Rattle.ranked_index.specs.Ranking.{IsRanking}
use Rattle.ranked_index.proofs.BelowLemmas.{below-all, below-insert}
use Rattle.ranked_index.specs.Listed.{AreRising}
use Rattle.subscription_table.specs.Rows.{AreNamed}
use Rattle.subscription_table.specs.Standing.{name_of}
use Rattle.subscription_table.proofs.LeafLemmas.{Entry, Names}

-- one more of the names from a number on
taken-more : (names : Names) (from number : ℕ) (entry : Entry) → from ≤ number → slice_get names number ≡ Some entry
    → take (number + 1 - from) (drop from names) ≡ take (number - from) (drop from names) ++ entry ∷ []
taken-more names from number entry above there =
    let within : number < length names = slice_get_within names number entry there in
    let place : number + 1 - from ≡ number - from + 1 = omega arith in
    let back : from + (number - from) ≡ number = omega arith in
    let rest : number - from < length (drop from names) = omega (arith, length-drop from names) in
    ap (λ (n : ℕ). take n (drop from names)) place
    ∙ take_more (drop from names) (number - from) entry rest
    ∙ ap (λ (e : Entry). take (number - from) (drop from names) ++ e ∷ [])
    (get_or-drop from names (number - from) entry ∙ ap (λ (n : ℕ). get_or names n entry) back ∙ get_or_from_slice_get names number entry entry there)

-- a row written as far as a number, and what the entry with that number gives pushed
pub row-more : {B : Type 0} (f : Entry → B) (old row new : List B) (names : Names) (from number : ℕ) (entry : Entry) → from ≤ number → slice_get names number ≡ Some entry
    → row ≡ old ++ map f (take (number - from) (drop from names)) → new ≡ row ++ f entry ∷ [] → new ≡ old ++ map f (take (number + 1 - from) (drop from names))
row-more f old row new names from number entry above there so_far pushed =
    pushed ∙ ap (λ row. row ++ f entry ∷ []) so_far
    ∙ append_assoc old (map f (take (number - from) (drop from names))) (f entry ∷ [])
    ∙ ap (λ (more : List _). old ++ more) (sym (ap (map f) (taken-more names from number entry above there) ∙ map-append f (take (number - from) (drop from names)) (entry ∷ [])))

-- the numbers are those of the first names
number-named : (r : PlainResumes) (names : Names) → AreNamed r names → (i : ℕ) → i < length r.order → slice_index r.order i < length r.leaves
number-named r names named i below =
    omega (arith, named.ranked.ranking.inverse.number_within i below, named.ranked.long, named.within, length-take-le (length r.leaves) names named.within)

first-entry : (r : PlainResumes) (names : Names) → AreNamed r names → (d : Entry) (i : ℕ) → i < length r.order → entry_at (take (length r.leaves) names) r.order d i ≡ entry_at names r.order d i
first-entry r names named d i below = get_or-take (length r.leaves) names (slice_index r.order i) d (number-named r names named i below)

-- the first names are ranked, and so stand in the order that all have
pub rising-named : (r : PlainResumes) (names : Names) → AreNamed r names → AreRising name_of sub_lt names r.order
rising-named r names named = record {
  within = λ i below. omega (arith, number-named r names named i below, named.within);
  rises = λ d low high less below.
      ap₂ (λ (a b : Entry). sub_lt a.0 b.0) (sym (first-entry r names named d low (omega arith))) (sym (first-entry r names named d high below)) ∙ named.ranked.rises d low high less below;
}

module _ (r : PlainResumes) (names : Names) (named : AreNamed r names) (entry : Entry) (position rank : ℕ) (there : slice_get names (length r.leaves) ≡ Some entry) where
  abbrev len : ℕ
  len = length r.leaves

  -- one more leaf, at the rank of the name with its number
  pub named-more : AreUnique names → IsFirstPast name_of sub_lt (Some entry.0) names r.order rank → AreNamed (pushed rank (open_leaf position) r) names
  named-more unique first = record {
    within = omega (arith, within, length_push r.leaves (open_leaf position));
    ranked = subst (λ (all : Names). AreRanked name_of sub_lt all (insert r.order rank (length r.order)))
        (sym (ap (λ (n : ℕ). take n names) (length_push r.leaves (open_leaf position)) ∙ take_more names len entry within ∙ ap (λ (e : Entry). take len names ++ e ∷ []) (get_or_from_slice_get names len entry entry there)))
        (ranked-insert (take len names) r.order rank entry named.ranked.long named.ranked.ranking first.within name_of sub_lt same_sub sub_order named.ranked
        (record {
          within = first.within;
          before = λ d i low. ap (λ (e : Entry). is_above sub_lt (Some entry.0) e.0) (first-entry r names named d i (omega (arith, first.within))) ∙ first.before d i low;
          past = λ d i reached below. ap (λ (e : Entry). is_above sub_lt (Some entry.0) e.0) (first-entry r names named d i below) ∙ first.past d i reached below;
        })
        (λ d i inside. is-new d i (omega (arith, inside, length-take-le len names (omega (arith, within))))));
  }
    where
      within : len < length names
      within = slice_get_within names len entry there

      is-new : (d : Entry) (i : ℕ) → i < len → same_sub entry.0 (get_or (take len names) i d).0 ≡ false
      is-new d i low =
          ap (λ (e : Entry). same_sub entry.0 e.0) (get_or-take len names i d low)
          ∙ false_from_ne_true (same_sub entry.0 (get_or names i d).0) (λ same.
          let one : len ≡ i = unique len i entry (get_or names i d) there (slice_get-get_or names i d (omega arith)) same in
          absurd (omega arith))

-- the rows as they were, with the order that they had
pub rows-back : (r new : PlainResumes) (more : List Leaf) (len : ℕ) → len ≡ length r.leaves → new.leaves ≡ r.leaves ++ more → numbers_below len new.order ≡ r.order → truncated len new ≡ r
rows-back r new more len is leaved ordered = λ i. record { leaves = (ap (take len) leaved ∙ take_at r.leaves more len (sym is)) i; order = ordered i }

-- also after one more was pushed
pub below-pushed : (r : PlainResumes) (rank resume len : ℕ) → IsRanking r.order → len ≡ length r.order → numbers_below len (pushed rank (open_leaf resume) r).order ≡ r.order
below-pushed r rank resume len ranking is = below-insert len rank (length r.order) r.order (omega arith) ∙ below-all len r.order ranking (omega arith)
