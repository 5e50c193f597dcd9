-- The least name of the entries that pass, by rank.
use Rattle.ranked_index.proofs.Prelude.{◌≡◌, ◌∙◌, ap, sym, refl, subst, ℕ, zero, suc, ◌+◌, ◌-◌, ◌<◌, ◌≤◌, ◌⊎◌, inl, inr, Bool, true, false, ◌&&◌, List, [], ◌∷◌, length, get_or, drop, map, filter, Option, Some, None, arith, and_from, and_left, and_right, both_ways, cases_lt, cases_order, cond_both, cond-true, cond-false, get_or-drop, get_or-map, length-map, same_Some, option_map, slice_index, if◌then◌else◌, first_at-None, first_at-Some, IsOrder, above, least, lesser, next_after, or_else, is_above}
use Rattle.std.proofs.Common.{length-drop}
use Rattle.std.proofs.Math.Bool.{and-true}
use Rattle.std.proofs.lemmas.List.Elements.{filter_agree}
use Rattle.ranked_index.specs.Keys.{first_at_most, is_at_most, least_key}
use Rattle.ranked_index.specs.Ranked.{entry_at, AreKeys, AreRanked, IsFirstPast}
use Rattle.ranked_index.specs.Ranking.{IsRanking}
use Rattle.ranked_index.proofs.LeastKeys.{least_key-same, IsAt}

-- the first key from a rank on that is at most the bound
pub record IsFirstKey (from bound rank : ℕ) (keys : List (Option ℕ)) : Type 0 where
  pub within : rank < length keys
  pub reached : from ≤ rank
  pub here : is_at_most bound (get_or keys rank None) ≡ true
  pub before : (i : ℕ) → from ≤ i → i < rank → is_at_most bound (get_or keys i None) ≡ false

key_from : (from bound i : ℕ) (keys : List (Option ℕ)) → from ≤ i → is_at_most bound (get_or keys i None) ≡ is_at_most bound (get_or (drop from keys) (i - from) None)
key_from from bound i keys reached =
    let back : from + (i - from) ≡ i = omega arith in
    ap (λ (n : ℕ). is_at_most bound (get_or keys n None)) (sym back) ∙ ap (is_at_most bound) (sym (get_or-drop from keys (i - from) None))

pub first_at_most-met : (from bound rank : ℕ) (keys : List (Option ℕ)) → first_at_most from bound keys ≡ Some rank → IsFirstKey from bound rank keys
first_at_most-met from bound rank keys same =
    let met = first_at-Some (is_at_most bound) from (drop from keys) None rank same in
    let place : rank - from ≡ met.place = omega (arith, met.at) in
    record {
      within = omega (arith, met.at, met.within, length-drop from keys);
      reached = omega (arith, met.at);
      here = key_from from bound rank keys (omega (arith, met.at)) ∙ ap (λ (n : ℕ). is_at_most bound (get_or (drop from keys) n None)) place ∙ met.is;
      before = λ i after low. key_from from bound i keys after ∙ met.before (i - from) (omega (arith, met.at));
    }

pub first_at_most-missed : (from bound : ℕ) (keys : List (Option ℕ)) → first_at_most from bound keys ≡ None → (i : ℕ) → from ≤ i → i < length keys → is_at_most bound (get_or keys i None) ≡ false
first_at_most-missed from bound keys same i after within =
    key_from from bound i keys after ∙ first_at-None (is_at_most bound) from (drop from keys) None same (i - from) (omega (arith, length-drop from keys))

-- the least key by rank is the least of all
pub least_key-ranked : {E : Type 0} (key : E → Option ℕ) (entries : List E) (order : List ℕ) (keys : List (Option ℕ)) → length order ≡ length entries → IsRanking order → E → AreKeys key entries order keys → least_key keys ≡ least_key (map key entries)
least_key-ranked {E} key entries order keys long ranking d are = least_key-same keys (map key entries) to from
  where
    own : (i : ℕ) → i < length entries → get_or (map key entries) i None ≡ key (get_or entries i d)
    own i within = get_or-map key entries i d None within

    to : (least : ℕ) → IsAt keys least → IsAt (map key entries) least
    to least at =
        let below : at.at < length order = omega (arith, at.within, are.long) in
        let inside : slice_index order at.at < length entries = omega (arith, ranking.inverse.number_within at.at below, long) in
        record {
          at = slice_index order at.at;
          within = omega (arith, inside, length-map entries key);
          is = own (slice_index order at.at) inside ∙ sym (are.key_at d at.at below) ∙ at.is;
        }

    from : (least : ℕ) → IsAt (map key entries) least → IsAt keys least
    from least at =
        let inside : at.at < length entries = omega (arith, at.within, length-map entries key) in
        let below : ranking.rank_of at.at < length order = ranking.inverse.rank_within at.at (omega (arith, long)) in
        record {
          at = ranking.rank_of at.at;
          within = omega (arith, below, are.long);
          is = are.key_at d (ranking.rank_of at.at) below
              ∙ ap (λ (n : ℕ). key (get_or entries n d)) (ranking.inverse.forth at.at (omega (arith, long)))
              ∙ sym (own at.at inside) ∙ at.is;
        }

module _ {E N : Type 0} (name : E → N) (lt same : N → N → Bool) (o : IsOrder lt same) where
  abbrev pub names_of : (E → Bool) → List E → List N
  names_of passes entries = map name (filter passes entries)

  -- where no name is given, all are past it
  pub all_past : (entries : List E) (order : List ℕ) → IsFirstPast name lt None entries order 0
  all_past entries order = record { within = omega arith; before = λ d i low. absurd (omega (arith, low)); past = λ d i reached within. refl }

  -- the names of those that pass, where the first does or doesn't
  by_first : (P : List N → Type 0) (passes : E → Bool) (e : E) (es : List E) → (passes e ≡ true → P (name e ∷ names_of passes es)) → (passes e ≡ false → P (names_of passes es)) → P (names_of passes (e ∷ es))
  by_first P passes e es there isnt = cond_both (passes e) (e ∷ filter passes es) (filter passes es) (λ kept. P (map name kept)) there isnt

  lesser_not_below : (x y : N) (least : Option N) → lt y x ≡ false → ((b : N) → least ≡ Some b → lt b x ≡ false) → lt (lesser lt y least) x ≡ false
  lesser_not_below x y None here rest = here
  lesser_not_below x y (Some b) here rest = cond_both (lt b y) b y (λ z. lt z x ≡ false) (λ _. rest b refl) (λ _. here)

  -- where none of those that pass is below a name, the least isn't
  least_not_below : (passes : E → Bool) (x : N) (d : E) (es : List E) → ((j : ℕ) → j < length es → passes (get_or es j d) ≡ true → lt (name (get_or es j d)) x ≡ false)
      → (b : N) → least lt (names_of passes es) ≡ Some b → lt b x ≡ false
  least_not_below passes x d [] all = λ b is. absurd (cc)
  least_not_below passes x d (e ∷ es) all =
      by_first (λ xs. (b : N) → least lt xs ≡ Some b → lt b x ≡ false) passes e es
      (λ is b found.
      subst (λ z. lt z x ≡ false) (same_Some (lesser lt (name e) (least lt (names_of passes es))) b found)
      (lesser_not_below x (name e) (least lt (names_of passes es)) (all 0 (omega arith) is) (least_not_below passes x d es (λ j within passed. all (suc j) (omega arith) passed))))
      (λ isnt. least_not_below passes x d es (λ j within passed. all (suc j) (omega arith) passed))

  lesser_first : (x : N) (least : Option N) → ((b : N) → least ≡ Some b → lt b x ≡ false) → lesser lt x least ≡ x
  lesser_first x None rest = refl
  lesser_first x (Some b) rest = cond-false (lt b x) b x (rest b refl)

  -- the least is the one that is less than each other that passes
  pub least_is : (passes : E → Bool) (d : E) (es : List E) (i : ℕ) → i < length es → passes (get_or es i d) ≡ true
      → ((j : ℕ) → j < length es → passes (get_or es j d) ≡ true → (j ≡ i) ⊎ (lt (name (get_or es i d)) (name (get_or es j d)) ≡ true))
      → least lt (names_of passes es) ≡ Some (name (get_or es i d))
  least_is passes d [] i within is all = absurd (omega arith)
  least_is passes d (e ∷ es) zero within is all =
      by_first (λ xs. least lt xs ≡ Some (name e)) passes e es
      (λ _. ap Some (lesser_first (name e) (least lt (names_of passes es)) (least_not_below passes (name e) d es (λ j inside passed.
      elim (all (suc j) (omega arith) passed) [
        | inl equal ↦ absurd (omega arith)
        | inr less ↦ o.one_way (name e) (name (get_or es j d)) less
      ]))))
      (λ isnt. absurd (both_ways (passes e) isnt is))
  least_is passes d (e ∷ es) (suc i) within is all =
      let rest : least lt (names_of passes es) ≡ Some (name (get_or es i d)) =
      least_is passes d es i (omega arith) is (λ j inside passed.
      elim (all (suc j) (omega arith) passed) [
        | inl equal ↦ inl (omega arith)
        | inr less ↦ inr less
      ]) in
      by_first (λ xs. least lt xs ≡ Some (name (get_or es i d))) passes e es
      (λ passed.
      elim (all 0 (omega arith) passed) [
        | inl equal ↦ absurd (omega arith)
        | inr less ↦ ap (λ found. Some (lesser lt (name e) found)) rest ∙ ap Some (cond-true (lt (name (get_or es i d)) (name e)) (name (get_or es i d)) (name e) less)
      ])
      (λ _. rest)

  pub least_none : (passes : E → Bool) (d : E) (es : List E) → ((j : ℕ) → j < length es → passes (get_or es j d) ≡ false) → least lt (names_of passes es) ≡ None
  least_none passes d [] all = refl
  least_none passes d (e ∷ es) all =
      by_first (λ xs. least lt xs ≡ None) passes e es
      (λ is. absurd (both_ways (passes e) (all 0 (omega arith)) is))
      (λ _. least_none passes d es (λ j within. all (suc j) (omega arith)))

  -- the names past one, of those that pass
  pub above_where : (passes : E → Bool) (after : Option N) (es : List E) → above lt after (names_of passes es) ≡ names_of (λ e. passes e && is_above lt after (name e)) es
  above_where passes None es = ap (map name) (filter_agree passes (λ e. passes e && true) (λ e. sym (and-true (passes e))) es)
  above_where passes (Some a) [] = refl
  above_where passes (Some a) (e ∷ es) = by (passes e) (lt a (name e)) refl (above_where passes (Some a) es)
    where
      by : (is past : Bool) → lt a (name e) ≡ past → filter (λ x. lt a x) (names_of passes es) ≡ names_of (λ e. passes e && lt a (name e)) es
          → filter (λ x. lt a x) (map name (if is then e ∷ filter passes es else filter passes es)) ≡ map name (if is && past then e ∷ filter (λ e. passes e && lt a (name e)) es else filter (λ e. passes e && lt a (name e)) es)
      by true true is rest =
          cond-true (lt a (name e)) (name e ∷ filter (λ x. lt a x) (names_of passes es)) (filter (λ x. lt a x) (names_of passes es)) is ∙ ap (λ xs. name e ∷ xs) rest
      by true false is rest =
          cond-false (lt a (name e)) (name e ∷ filter (λ x. lt a x) (names_of passes es)) (filter (λ x. lt a x) (names_of passes es)) is ∙ rest
      by false past is rest = rest

  module _ (entries : List E) (order : List ℕ) (are : AreRanked name lt entries order) (d : E) where
    -- what holds of the entry at its rank holds of it
    ranked : (P : E → Type 0) (j : ℕ) → j < length entries → P (entry_at entries order d (are.ranking.rank_of j)) → P (get_or entries j d)
    ranked P j within = subst (λ (n : ℕ). P (get_or entries n d)) (are.ranking.inverse.forth j (omega (arith, are.long)))

    -- the first that passes by rank has the least name of those that pass
    pub least_by_rank : (passes : E → Bool) (rank : ℕ) → rank < length order → passes (entry_at entries order d rank) ≡ true → ((i : ℕ) → i < rank → passes (entry_at entries order d i) ≡ false)
        → least lt (names_of passes entries) ≡ Some (name (entry_at entries order d rank))
    least_by_rank passes rank within is before =
        least_is passes d entries (slice_index order rank) (omega (arith, are.long, are.ranking.inverse.number_within rank within)) is
        (λ j inside passed.
        elim (cases_order (are.ranking.rank_of j) rank) [
          | inl equal ↦ inl (sym (are.ranking.inverse.forth j (omega (arith, are.long))) ∙ ap (slice_index order) equal)
          | inr apart ↦ elim apart [
            | inl low ↦ absurd (both_ways (passes (get_or entries j d)) (ranked (λ e. passes e ≡ false) j inside (before (are.ranking.rank_of j) low)) passed)
            | inr high ↦
                inr (ranked (λ e. lt (name (entry_at entries order d rank)) (name e) ≡ true) j inside
                (are.rises d rank (are.ranking.rank_of j) high (are.ranking.inverse.rank_within j (omega (arith, are.long)))))
          ]
        ])

    pub none_by_rank : (passes : E → Bool) → ((i : ℕ) → i < length order → passes (entry_at entries order d i) ≡ false) → least lt (names_of passes entries) ≡ None
    none_by_rank passes none =
        least_none passes d entries (λ j within.
        ranked (λ e. passes e ≡ false) j within (none (are.ranking.rank_of j) (are.ranking.inverse.rank_within j (omega (arith, are.long)))))

    -- the name under a number
    abbrev name_under : ℕ → N
    name_under number = name (get_or entries number d)

    module _ (key : E → Option ℕ) (keys : List (Option ℕ)) (keyed : AreKeys key entries order keys) (bound : ℕ) (passes : E → Bool) (key_passes : (e : E) → is_at_most bound (key e) ≡ passes e) where
      passes_at : (i : ℕ) → i < length order → passes (entry_at entries order d i) ≡ is_at_most bound (get_or keys i None)
      passes_at i within = sym (key_passes (entry_at entries order d i)) ∙ ap (is_at_most bound) (sym (keyed.key_at d i within))

      -- the least past a name is at the first rank past it whose key is low enough
      least_past : (after : Option N) (from : ℕ) → IsFirstPast name lt after entries order from → (found : Option ℕ) → first_at_most from bound keys ≡ found
          → least lt (above lt after (names_of passes entries)) ≡ option_map name_under (option_map (slice_index order) found)
      least_past after from first None is =
          ap (least lt) (above_where passes after entries)
          ∙ none_by_rank (λ e. passes e && is_above lt after (name e)) (λ i within. elim (cases_lt i from) [
            | inl before ↦ and_right (passes (entry_at entries order d i)) (is_above lt after (name (entry_at entries order d i))) (first.before d i before)
            | inr reached ↦
                and_left (passes (entry_at entries order d i)) (is_above lt after (name (entry_at entries order d i)))
                (passes_at i within ∙ first_at_most-missed from bound keys is i reached (omega (arith, keyed.long)))
          ])
      least_past after from first (Some rank) is =
          let met = first_at_most-met from bound rank keys is in
          let below : rank < length order = omega (arith, met.within, keyed.long) in
          ap (least lt) (above_where passes after entries)
          ∙ least_by_rank (λ e. passes e && is_above lt after (name e)) rank below
          (and_from (passes (entry_at entries order d rank)) (is_above lt after (name (entry_at entries order d rank))) (passes_at rank below ∙ met.here) (first.past d rank met.reached below))
          (λ i low. elim (cases_lt i from) [
            | inl before ↦ and_right (passes (entry_at entries order d i)) (is_above lt after (name (entry_at entries order d i))) (first.before d i before)
            | inr reached ↦
                and_left (passes (entry_at entries order d i)) (is_above lt after (name (entry_at entries order d i))) (passes_at i (omega arith) ∙ met.before i reached low)
          ])

      either : (a b : Option ℕ) → or_else (option_map name_under (option_map (slice_index order) a)) (option_map name_under (option_map (slice_index order) b)) ≡ option_map name_under (option_map (slice_index order) (or_else a b))
      either None b = refl
      either (Some rank) b = refl

      -- the next that passes, and where there is none the first of all
      pub next_by_rank : (after : Option N) (from : ℕ) → IsFirstPast name lt after entries order from
          → option_map name_under (option_map (slice_index order) (or_else (first_at_most from bound keys) (first_at_most 0 bound keys))) ≡ next_after lt after (names_of passes entries)
      next_by_rank after from first =
          sym (
          ap (λ found. or_else found (least lt (names_of passes entries))) (least_past after from first (first_at_most from bound keys) refl)
          ∙ ap (or_else (option_map name_under (option_map (slice_index order) (first_at_most from bound keys)))) (least_past None 0 (all_past entries order) (first_at_most 0 bound keys) refl)
          ∙ either (first_at_most from bound keys) (first_at_most 0 bound keys))
