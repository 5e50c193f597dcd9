-- The elements of a list by ranks that rise are the list in order.
use Rattle.step_core.proofs.Prelude.{◌≡◌, ◌∙◌, ◌<◌, ℕ, zero, suc, Bool, true, false, List, [], ◌∷◌, length, get_or, filter, map, nat_lt, Option, Some, None, refl, sym, ap, arith, true≢false, and_from, false_from_ne_true, ltb-false, ltb-true, get_or-map, get_or_default, length-map, IsStrictWeakOrder, slice_index, first_at-None, first_at-Some, first_at, in_order}
use Rattle.std.specs.List.Sorted.{ties, IsStableBy}
use Rattle.ranked_index.specs.Ranking.{IsInverse, IsRanking}
use Rattle.step_core.proofs.SortedOnce.{one_ties, risen-stable}

module _ {X : Type 0} (test : X → Bool) where
  filter-none : (xs : List X) (d : X) → ((i : ℕ) → i < length xs → test (get_or xs i d) ≡ false) → filter test xs ≡ []
  filter-none [] d none = refl
  filter-none (x ∷ xs) d none = rw (none 0 (omega arith)) (filter-none xs d (λ i within. none (suc i) (omega arith)))

  filter-one : (xs : List X) (d : X) (i : ℕ) → i < length xs → test (get_or xs i d) ≡ true → ((j : ℕ) → j < length xs → (j ≡ i → ⊥) → test (get_or xs j d) ≡ false) → filter test xs ≡ get_or xs i d ∷ []
  filter-one [] d i within is others = absurd (omega arith)
  filter-one (x ∷ xs) d zero within is others =
      rw is (ap (λ (rest : List X). x ∷ rest) (filter-none xs d (λ j inside. others (suc j) (omega arith) (λ same. omega (arith, same)))))
  filter-one (x ∷ xs) d (suc i) within is others =
      rw (others 0 (omega arith) (λ same. omega (arith, same)))
      (filter-one xs d i (omega arith) is (λ j inside apart. others (suc j) (omega arith) (λ same. apart (let one_less : j ≡ i = omega (arith, same) in one_less))))

module _ {X : Type 0} (lt : X → X → Bool) (o : IsStrictWeakOrder lt) (xs : List X) (d : X) (order : List ℕ) (ranking : IsRanking order) (long : length order ≡ length xs) where
  abbrev at : ℕ → X
  at rank = get_or xs (slice_index order rank) d

  abbrev pub by_rank : List X
  by_rank = map (λ n. get_or xs n d) order

  many : length by_rank ≡ length order
  many = length-map order (λ n. get_or xs n d)

  read : (rank : ℕ) → rank < length order → get_or by_rank rank d ≡ at rank
  read rank within = get_or-map (λ n. get_or xs n d) order rank 0 d within

  module _ (rises : (low high : ℕ) → low < high → high < length order → lt (at low) (at high) ≡ true) where
    -- no two ranks tie with one element
    alone : (z : X) (r s : ℕ) → r < length order → s < length order → ties lt z (at r) ≡ true → ties lt z (at s) ≡ true → r ≡ s
    alone z r s in-r in-s tie-r tie-s = by (nat_lt r s) (nat_lt s r) refl refl
      where
        apart : (low high : ℕ) → low < high → high < length order → ties lt z (at low) ≡ true → ties lt z (at high) ≡ true → ⊥
        apart low high less within tie-low tie-high =
            true≢false (sym (and_from (ties lt z (at high)) (ties lt z (at low)) tie-high tie-low) ∙ one_ties lt o z (at high) (at low) (rises low high less within))

        by : (less more : Bool) → nat_lt r s ≡ less → nat_lt s r ≡ more → r ≡ s
        by true more is-less is-more = absurd (apart r s (ltb-true r s is-less) in-s tie-r tie-s)
        by false true is-less is-more = absurd (apart s r (ltb-true s r is-more) in-r tie-s tie-r)
        by false false is-less is-more =
            omega (arith, ltb-false r s is-less, ltb-false s r is-more)

    stable : IsStableBy lt xs by_rank
    stable z = by (first_at (ties lt z) 0 xs) refl
      where
        inverse : IsInverse order ranking.rank_of
        inverse = ranking.inverse

        by : (found : Option ℕ) → first_at (ties lt z) 0 xs ≡ found → filter (ties lt z) by_rank ≡ filter (ties lt z) xs
        by None none =
            let nowhere = first_at-None (ties lt z) 0 xs d none in
            filter-none (ties lt z) by_rank d (λ r within.
            let inside : r < length order = omega (arith, within, many) in
            ap (ties lt z) (read r inside) ∙ nowhere (slice_index order r) (omega (arith, inverse.number_within r inside, long)))
            ∙ sym (filter-none (ties lt z) xs d nowhere)
        by (Some i) found =
            let first = first_at-Some (ties lt z) 0 xs d i found in
            let place = first.place in
            let inside : place < length order = let within = first.within in omega (arith, within, long) in
            let rank = ranking.rank_of place in
            let rank_in = inverse.rank_within place inside in
            let back : slice_index order rank ≡ place = inverse.forth place inside in
            let tie : ties lt z (at rank) ≡ true = ap (λ n. ties lt z (get_or xs n d)) back ∙ first.is in
            let here : get_or by_rank rank d ≡ get_or xs place d = read rank rank_in ∙ ap (λ n. get_or xs n d) back in
            filter-one (ties lt z) by_rank d rank (omega (arith, rank_in, many)) (ap (ties lt z) (read rank rank_in) ∙ tie)
            (λ s within apart. false_from_ne_true (ties lt z (get_or by_rank s d)) (λ passes.
            let in-s : s < length order = omega (arith, within, many) in
            apart (alone z s rank in-s rank_in (sym (ap (ties lt z) (read s in-s)) ∙ passes) tie)))
            ∙ ap (λ (x : X). x ∷ []) here
            ∙ sym (filter-one (ties lt z) xs d place first.within first.is
            (λ j within apart. false_from_ne_true (ties lt z (get_or xs j d)) (λ passes.
            let in-j : j < length order = omega (arith, within, long) in
            let own : slice_index order (ranking.rank_of j) ≡ j = inverse.forth j in-j in
            let same = alone z (ranking.rank_of j) rank (inverse.rank_within j in-j) rank_in (ap (λ n. ties lt z (get_or xs n d)) own ∙ passes) tie in
            apart (sym own ∙ ap (slice_index order) same ∙ back))))

    pub ranked-in_order : by_rank ≡ in_order lt xs
    ranked-in_order = risen-stable lt o xs by_rank up stable
      where
        up : (i j : ℕ) (e : X) → i < j → j < length by_rank → lt (get_or by_rank j e) (get_or by_rank i e) ≡ false
        up i j e less within =
            let in-j : j < length order = omega (arith, within, many) in
            let in-i : i < length order = omega arith in
            let first : get_or by_rank i e ≡ at i = get_or_default by_rank i e d (omega (arith, in-i, many)) ∙ read i in-i in
            let second : get_or by_rank j e ≡ at j = get_or_default by_rank j e d within ∙ read j in-j in
            let back : lt (at j) (at i) ≡ false = o.one_way (at i) (at j) (rises i j less in-j) in
            rw (first, second) back
