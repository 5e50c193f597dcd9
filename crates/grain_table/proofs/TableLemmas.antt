-- The ready ones after one grain was looked at.
use Rattle.grain_table.proofs.Prelude.{PlainActivation, rank-before, ranked-insert, IsListed, entry_at, AreRanked, IsFirstPast, ◌≡◌, ◌∙◌, ap, sym, subst, ℕ, ◌+◌, ◌-◌, ◌<◌, ◌≤◌, Bool, true, false, List, [], ◌∷◌, ◌++◌, length, get_or, drop, slice_index, insert, remove, Option, Some, None, arith, true≢false, IsTrue, ◌↔◌, refl, false_from_ne_true, ltb-false, get_or_default, grain_order, grain_lt, same_grain, keys_where, least, GrainId}
use Rattle.stream_ident.proofs.FirstLemmas.{first_at-None, first_at-Some, first_at-there}
use Rattle.stream_ident.proofs.SameValues.{same_grain-equal}
use Rattle.ranked_index.proofs.ListedLemmas.{listed-in, listed-insert, listed-last, listed-out, listed-remove, listed-room, next_listed-first, next_listed-none, next_listed-past}
use Rattle.grain_table.specs.Changes.{no_grain, activation_at, grain_at}
use Rattle.grain_table.specs.Grains.{PlainGrains, is_ready, number_of, ready_after, AreDistinct}
use Rattle.grain_table.specs.Table.{is_entry_ready, name_of, AreReady, AreReadyBut, HaveRisingNames}

-- an entry that was read
pub read_entry : (grains : PlainGrains) (number : ℕ) (e d : GrainId × PlainActivation) → number < length grains → e ≡ get_or grains number e → get_or grains number d ≡ e
read_entry grains number e d within is = get_or_default grains number d e within ∙ sym is

-- ---- the grains by name

pub rising-ranked : (grains : PlainGrains) (order : List ℕ) → AreRanked name_of grain_lt grains order → HaveRisingNames grains order
rising-ranked grains order are = record {
  within = λ i below. omega (arith, are.long, are.ranking.inverse.number_within i below);
  rises = are.rises;
}

-- grains that have ranks by name are distinct
pub distinct-ranked : (grains : PlainGrains) (order : List ℕ) → AreRanked name_of grain_lt grains order → AreDistinct grains
distinct-ranked grains order are i j d i_within j_within same =
    let of = are.ranking.inverse in
    let i_below : i < length order = omega (arith, are.long, i_within) in
    let j_below : j < length order = omega (arith, are.long, j_within) in
    let i_rank = are.ranking.rank_of i in
    let j_rank = are.ranking.rank_of j in
    let apart = grain_order.apart (get_or grains i d).0 (get_or grains j d).0 same in
    let before = rank-before name_of grain_lt same_grain grain_order grains order are d i j i_rank j_rank (of.rank_within i i_below) (of.forth i i_below) (of.rank_within j j_below) (of.forth j j_below) in
    let after = rank-before name_of grain_lt same_grain grain_order grains order are d j i j_rank i_rank (of.rank_within j j_below) (of.forth j j_below) (of.rank_within i i_below) (of.forth i i_below) in
    let level : i_rank ≡ j_rank = omega (arith, ltb-false i_rank j_rank (before ∙ apart.0), ltb-false j_rank i_rank (after ∙ apart.1)) in
    sym (of.forth i i_below) ∙ ap (slice_index order) level ∙ of.forth j j_below

-- a grain that was read under a number has that number
pub number_of-read : (grains : PlainGrains) (grain : GrainId) (number : ℕ) → AreDistinct grains → number < length grains → same_grain grain (grain_at grains number) ≡ true → Some number ≡ number_of grains grain
number_of-read grains grain number distinct within is =
    sym (first_at-there (λ e. same_grain grain e.0) 0 grains no_grain number within is
    (λ j less. false_from_ne_true (same_grain grain (grain_at grains j)) (λ also.
    let equal = distinct number j no_grain within (omega arith) (ap (λ (g : GrainId). same_grain g (grain_at grains j)) (sym (same_grain-equal grain (grain_at grains number) is)) ∙ also) in
    absurd (omega (arith, equal))))
    ∙ ap {B = Option ℕ} Some (let same : 0 + number ≡ number = omega arith in same))

-- and the other way round
pub number_of-found : (grains : PlainGrains) (grain : GrainId) (number : ℕ) → number_of grains grain ≡ Some number → (number < length grains) × (same_grain grain (grain_at grains number) ≡ true)
number_of-found grains grain number is =
    let first = first_at-Some (λ (e : GrainId × PlainActivation). same_grain grain e.0) 0 grains no_grain number is in
    let place : first.place ≡ number = omega (arith, first.at) in
    (omega (arith, place, first.within), ap (λ (n : ℕ). same_grain grain (grain_at grains n)) (sym place) ∙ first.is)

-- it has the last rank whose name is not greater
pub last-named : (grains : PlainGrains) (order : List ℕ) (grain : GrainId) (past number : ℕ) → AreRanked name_of grain_lt grains order → IsFirstPast name_of grain_lt (Some grain) grains order past → number_of grains grain ≡ Some number
    → (0 < past) × (slice_index order (past - 1) ≡ number)
last-named grains order grain past number are first is =
    let found = number_of-found grains grain number is in
    let below : number < length order = omega (arith, are.long, found.0) in
    let of = are.ranking.inverse in
    listed-last name_of grain_lt same_grain grain_order is_entry_ready grains order number past no_grain (rising-ranked grains order are)
    (subst (λ (g : GrainId). IsFirstPast name_of grain_lt (Some g) grains order past) (same_grain-equal grain (grain_at grains number) found.1) first)
    (record { place = are.ranking.rank_of number; within = of.rank_within number below; at = of.forth number below })

-- one more, at the first rank past its name
pub ranked-more : (grains : PlainGrains) (order : List ℕ) (past : ℕ) (e : GrainId × PlainActivation) → AreRanked name_of grain_lt grains order → IsFirstPast name_of grain_lt (Some e.0) grains order past → number_of grains e.0 ≡ None
    → AreRanked name_of grain_lt (grains ++ e ∷ []) (insert order past (length grains))
ranked-more grains order past e are first none =
    subst (λ (n : ℕ). AreRanked name_of grain_lt (grains ++ e ∷ []) (insert order past n)) are.long
    (ranked-insert grains order past e are.long are.ranking first.within name_of grain_lt same_grain grain_order are first
    (λ d i within. first_at-None (λ (x : GrainId × PlainActivation). same_grain e.0 x.0) 0 grains d none i within))

-- ---- the ready ones

module _ (grains : PlainGrains) (numbers : List ℕ) (number : ℕ) (within : number < length grains) (but : AreReadyBut number grains numbers) where
  pub has-room : (IsListed numbers number → ⊥) → length numbers < length grains
  has-room isnt = listed-room name_of grain_lt same_grain grain_order is_entry_ready grains numbers number within but.rising isnt

  -- it stands there just where it is to
  pub stays : (was : Bool) → IsTrue was ↔ IsListed numbers number → was ≡ is_ready (activation_at grains number) → AreReady grains numbers
  stays true stood is = listed-in name_of grain_lt same_grain grain_order is_entry_ready grains numbers number no_grain within but (stood.0 refl) (sym is)
  stays false stood is = listed-out name_of grain_lt same_grain grain_order is_entry_ready grains numbers number no_grain within but (λ there. true≢false (sym (stood.1 there))) (sym is)

  module _ (d : GrainId × PlainActivation) (past : ℕ) (before : IsFirstPast name_of grain_lt (Some (get_or grains number d).0) grains numbers past) where
    first : IsFirstPast name_of grain_lt (Some (grain_at grains number)) grains numbers past
    first = subst (λ (g : GrainId). IsFirstPast name_of grain_lt (Some g) grains numbers past) (ap name_of (get_or_default grains number d no_grain within)) before

    pub put-in : AreDistinct grains → (IsListed numbers number → ⊥) → is_ready (activation_at grains number) ≡ true → AreReady grains (insert numbers past number)
    put-in distinct isnt is =
        listed-insert name_of grain_lt same_grain grain_order is_entry_ready grains numbers number past no_grain within (λ d i j. distinct i j d) but isnt is first

    -- it stands right before the first whose name is greater
    pub last-before : IsListed numbers number → (0 < past) × (slice_index numbers (past - 1) ≡ number)
    last-before there = listed-last name_of grain_lt same_grain grain_order is_entry_ready grains numbers number past no_grain but.rising first there

    pub taken-out : IsListed numbers number → is_ready (activation_at grains number) ≡ false → AreReady grains (remove numbers (past - 1))
    taken-out there is =
        listed-remove name_of grain_lt same_grain grain_order is_entry_ready grains numbers number (past - 1) no_grain within but (omega (arith, first.within, (last-before there).0)) (last-before there).1 is

-- ---- the next that is ready

-- the grain that was read at a place
pub grain-at : (grains : PlainGrains) (numbers : List ℕ) (place number : ℕ) (e : GrainId × PlainActivation) → AreReady grains numbers → place < length numbers → number ≡ get_or numbers place number → e ≡ get_or grains number e
    → e.0 ≡ name_of (entry_at grains numbers no_grain place)
grain-at grains numbers place number e are within is seen =
    let same : slice_index numbers place ≡ number = get_or_default numbers place 0 number within ∙ sym is in
    let inside : number < length grains = subst (λ (n : ℕ). n < length grains) same (are.rising.within place within) in
    ap name_of (sym (read_entry grains number e no_grain inside seen)) ∙ ap (λ (n : ℕ). name_of (get_or grains n no_grain)) (sym same)

pub next-past : (grains : PlainGrains) (numbers : List ℕ) (after : Option GrainId) (past place : ℕ) → AreReady grains numbers → IsFirstPast name_of grain_lt after grains numbers past → past < length numbers → place ≡ past
    → Some (name_of (entry_at grains numbers no_grain place)) ≡ ready_after grains after
next-past grains numbers after past place are first within same =
    ap (λ (n : ℕ). Some (name_of (entry_at grains numbers no_grain n))) same
    ∙ sym (next_listed-past name_of grain_lt same_grain grain_order is_entry_ready grains numbers after past no_grain are first within)

pub next-first : (grains : PlainGrains) (numbers : List ℕ) (after : Option GrainId) (past place : ℕ) → AreReady grains numbers → IsFirstPast name_of grain_lt after grains numbers past → length numbers ≤ past → place ≡ 0 → place < length numbers
    → Some (name_of (entry_at grains numbers no_grain place)) ≡ ready_after grains after
next-first grains numbers after past place are first high same within =
    ap (λ (n : ℕ). Some (name_of (entry_at grains numbers no_grain n))) same
    ∙ sym (next_listed-first name_of grain_lt same_grain grain_order is_entry_ready grains numbers after past no_grain are first high (omega (arith, same, within)))

pub next-none : (grains : PlainGrains) (numbers : List ℕ) (after : Option GrainId) → AreReady grains numbers → length numbers ≡ 0 → None ≡ ready_after grains after
next-none grains numbers after are none = sym (next_listed-none name_of grain_lt same_grain grain_order is_entry_ready grains numbers after are none)

-- ---- the least that passes, from the end on

abbrev pub least_from : (PlainActivation → Bool) → ℕ → PlainGrains → Option GrainId
least_from passes n grains = least grain_lt (keys_where passes (drop n grains))
