-- Summaries in the order of their names, by rank.
use Rattle.step_core.proofs.Prelude.{SubState, Registration, ◌≡◌, ◌∙◌, ◌<◌, ℕ, suc, Bool, true, List, [], ◌∷◌, length, get_or, map, Some, slice_get, refl, sym, ap, subst, arith, cond_both, get_or-map, length-map, slice_get-get_or, slice_get-map, IsStrictWeakOrder, option_map, slice_index, sub_lt, SubName, in_order, insert_in_order, name_of, no_entry, no_state}
use Rattle.std.proofs.lemmas.List.MinMax.{ranks_by}
use Rattle.std.specs.Ordering.{is_lt}
use Rattle.stream_ident.specs.contracts.ident.SubNameOrd.TheImpl as name_order
use Rattle.stream_ident.specs.contracts.ident.SubNameOrd.TheImpl.Laws.{total-law}
use Rattle.stream_ident.proofs.NameOrders.{sub_less_at}
use Rattle.ranked_index.specs.Ranked.{AreRanked}
use Rattle.ranked_index.specs.Ranking.{IsInverse}
use Rattle.step_core.specs.declared.reading.SubSummary.{SubSummary}
use Rattle.step_core.specs.Reads.{is_named_before, summary_of}
use Rattle.step_core.specs.View.{sub_of, subs_of}
use Rattle.step_core.proofs.RankedOnce.{by_rank, ranked-in_order}
use Rattle.step_core.proofs.ViewLemmas.{record-at, records-length}

abbrev has_lesser_name : SubSummary → SubSummary → Bool
has_lesser_name a b = is_lt (name_order.ghosts.cmp a.name b.name)

named_before : has_lesser_name ≡ is_named_before
named_before = λ i a b. sub_less_at a.name b.name i

-- names rank summaries
pub named_order : IsStrictWeakOrder is_named_before
named_order =
    let name : SubSummary → SubName = λ summary. summary.name in
    subst IsStrictWeakOrder named_before (ranks_by total-law name)

length-insert : (x : SubSummary) (xs : List SubSummary) → length (insert_in_order is_named_before x xs) ≡ suc (length xs)
length-insert x [] = refl
length-insert x (y ∷ ys) =
    cond_both (is_named_before y x) (y ∷ insert_in_order is_named_before x ys) (x ∷ y ∷ ys) (λ (zs : List SubSummary). length zs ≡ suc (suc (length ys))) (λ _. ap suc (length-insert x ys)) (λ _. refl)

length-in_order : (xs : List SubSummary) → length (in_order is_named_before xs) ≡ length xs
length-in_order [] = refl
length-in_order (x ∷ xs) = length-insert x (in_order is_named_before xs) ∙ ap suc (length-in_order xs)

module _ (names : List (SubName × Registration)) (states : List SubState) (lengths : length names ≡ length states) where
  abbrev pub summary_by : ℕ → SubSummary
  summary_by number = summary_of (sub_of (get_or names number no_entry) (get_or states number no_state))

  abbrev pub summaries : List SubSummary
  summaries = map summary_of (subs_of names states)

  pub count-summaries : length summaries ≡ length names
  count-summaries = length-map (subs_of names states) summary_of ∙ records-length names states lengths

  summary-is : (number : ℕ) (d : SubSummary) → number < length names → get_or summaries number d ≡ summary_by number
  summary-is number d within =
      get_or-map summary_of (subs_of names states) number (sub_of no_entry no_state) d (omega (arith, within, records-length names states lengths))
      ∙ ap summary_of (record-at names states number (sub_of no_entry no_state) no_entry no_state lengths within)

  pub count-in_order : length (in_order is_named_before summaries) ≡ length names
  count-in_order = length-in_order summaries ∙ count-summaries

  module _ (order : List ℕ) (ranked : AreRanked name_of sub_lt names order) where
    d : SubSummary
    d = summary_of (sub_of no_entry no_state)

    in_order-is : by_rank is_named_before named_order summaries d order ranked.ranking (ranked.long ∙ sym count-summaries) ≡ in_order is_named_before summaries
    in_order-is = ranked-in_order is_named_before named_order summaries d order ranked.ranking (ranked.long ∙ sym count-summaries) rises
      where
        inverse : IsInverse order ranked.ranking.rank_of
        inverse = ranked.ranking.inverse

        rises : (low high : ℕ) → low < high → high < length order → is_named_before (get_or summaries (slice_index order low) d) (get_or summaries (slice_index order high) d) ≡ true
        rises low high less within =
            let first = summary-is (slice_index order low) d (let there = inverse.number_within low (omega arith) in let long = ranked.long in omega (arith, there, long)) in
            let second = summary-is (slice_index order high) d (let there = inverse.number_within high within in let long = ranked.long in omega (arith, there, long)) in
            rw (first, second) (ranked.rises no_entry low high less within)

    -- the number at a rank is that of a subscription
    pub number-ranked : (rank : ℕ) → rank < length (in_order is_named_before summaries) → slice_index order rank < length names
    number-ranked rank within =
        let there = ranked.ranking.inverse.number_within rank (let long = ranked.long in omega (arith, within, count-in_order, long)) in
        omega (arith, there, ranked.long)

    -- the summary at a rank
    pub summary-at : (rank : ℕ) → rank < length (in_order is_named_before summaries) → slice_get (in_order is_named_before summaries) rank ≡ Some (summary_by (slice_index order rank))
    summary-at rank within =
        let inside : rank < length order = (let long = ranked.long in omega (arith, within, count-in_order, long)) in
        ap (λ (all : List SubSummary). slice_get all rank) (sym in_order-is)
        ∙ slice_get-map (λ n. get_or summaries n d) order rank
        ∙ ap (option_map (λ n. get_or summaries n d)) (slice_get-get_or order rank 0 inside)
        ∙ ap Some (summary-is (slice_index order rank) d (number-ranked rank within))
