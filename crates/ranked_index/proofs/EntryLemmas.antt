-- Entries and their keys where one is added, changed or taken back.
use Rattle.ranked_index.proofs.Prelude.{◌≡◌, ◌≢◌, ◌∙◌, ap, ap₂, sym, subst, ℕ, ◌+◌, ◌<◌, ◌≤◌, inl, inr, Bool, true, false, not, List, [], ◌∷◌, ◌++◌, length, get_or, take, set, Option, Some, nat_lt, arith, length-set, get_or-set_same, get_or-set_other, both_ways, cases_lt, cases_eq, cases_order, false_from_ne_true, le-ltb, lt-ltb, not-false, not-true, not_from_false, get_or_append_left, get_or_default, get_or_push, get_or-take, length_push, length-insert, length-remove, get_or-remove_below, get_or-remove_above, slice_get-get_or, insert, remove, slice_index, IsOrder}
use Rattle.std.specs.List.Sorted.{IsPartitionedBy, IsPartitionPoint}
use Rattle.ranked_index.specs.Ranked.{entry_at, is_up_to, some_up_to, AreByRank, AreRanked, IsFirstPast}
use Rattle.ranked_index.specs.Listed.{AreRising}
use Rattle.ranked_index.specs.Ranking.{IsRanking}
use Rattle.ranked_index.proofs.RankLemmas.{along, distinct_numbers, insert-before, insert-here, insert-past, inserted_pairs, placed, ranking-insert, removed_within, Placed, Before, Here, Past}

-- ---- an entry more

module _ {E : Type 0} (entries : List E) (order : List ℕ) (rank : ℕ) (entry : E) (long : length order ≡ length entries) (ranking : IsRanking order) (fits : rank ≤ length order) where
  abbrev more : List E
  more = entries ++ entry ∷ []

  abbrev moved : List ℕ
  moved = insert order rank (length order)

  moved_long : length moved ≡ length order + 1
  moved_long = length-insert order rank (length order) fits

  old_entry : (d : E) (i : ℕ) → i < length order → get_or more (slice_index order i) d ≡ entry_at entries order d i
  old_entry d i within = get_or_append_left entries (entry ∷ []) d (slice_index order i) (omega (arith, long, ranking.inverse.number_within i within))

  new_entry : (d : E) → get_or more (length order) d ≡ entry
  new_entry d = get_or_push entries entry d (length order) (sym long)

  -- what is kept by rank, with that of the entry at its rank
  pub by_rank-insert : {K : Type 0} (Is : E → K → Type 0) (none k : K) (row : List K) → AreByRank Is none entries order row → Is entry k → AreByRank Is none more moved (insert row rank k)
  by_rank-insert Is none k row are is = record { long = omega (arith, length-insert row rank k inside, are.long, moved_long); row_at = λ d i within. row_at d i within (placed rank i) }
    where
      inside : rank ≤ length row
      inside = omega (arith, are.long, fits)

      row_at : (d : E) (i : ℕ) → i < length moved → Placed rank i → Is (entry_at more moved d i) (get_or (insert row rank k) i none)
      row_at d i within (Before low) =
          along Is (ap (λ (n : ℕ). get_or more n d) (insert-before order rank (length order) 0 fits i low) ∙ old_entry d i (omega (arith, fits)))
          (insert-before row rank k none inside i low) (are.row_at d i (omega (arith, fits)))
      row_at d i within (Here same) =
          along Is (ap (λ (n : ℕ). get_or more n d) (insert-here order rank (length order) 0 fits i same) ∙ new_entry d) (insert-here row rank k none inside i same) is
      row_at d i within (Past j next high) =
          let below : j < length order = omega (arith, moved_long) in
          along Is (ap (λ (n : ℕ). get_or more n d) (insert-past order rank (length order) 0 fits i j next high) ∙ old_entry d j below)
          (insert-past row rank k none inside i j next high) (are.row_at d j below)

  -- the entries with it, where it stands at the first rank past its name, which none has
  pub ranked-insert : {N : Type 0} (name : E → N) (lt same : N → N → Bool) → IsOrder lt same → AreRanked name lt entries order → IsFirstPast name lt (Some (name entry)) entries order rank
      → ((d : E) (i : ℕ) → i < length entries → same (name entry) (name (get_or entries i d)) ≡ false) → AreRanked name lt more moved
  ranked-insert {N} name lt same o are first new = record {
    long = omega (arith, moved_long, long, length_push entries entry);
    ranking = ranking-insert order ranking rank fits;
    rises = λ d.
        inserted_pairs order rank (length order) fits (λ m n. Less (get_or more m d) (get_or more n d))
        (λ i j less within. along Less (old_entry d i (omega arith)) (old_entry d j within) (are.rises d i j less within))
        (λ i low.
        let within : i < length order = omega (arith, fits) in
        along Less (old_entry d i within) (new_entry d)
        (o.rest (name entry) (name (entry_at entries order d i)) (first.before d i low) (new d (slice_index order i) (omega (arith, long, ranking.inverse.number_within i within)))))
        (λ i high within. along Less (new_entry d) (old_entry d i within) (first.past d i high within));
  }
    where
      Less : E → E → Type 0
      Less a b = lt (name a) (name b) ≡ true

-- ---- another entry under a number

module _ {E : Type 0} (entries : List E) (order : List ℕ) (number : ℕ) (entry : E) (within : number < length entries) where
  abbrev other : List E
  other = set entries number entry

  -- of the same name
  pub name_kept : {N : Type 0} (name : E → N) → ((d : E) → name entry ≡ name (get_or entries number d)) → (d : E) (i : ℕ) → name (get_or other i d) ≡ name (get_or entries i d)
  name_kept name same d i =
      elim (cases_eq i number) [
        | inl here ↦
            ap (λ (k : ℕ). name (get_or other k d)) here ∙ ap name (get_or-set_same entries number entry d within)
            ∙ same d ∙ ap (λ (k : ℕ). name (get_or entries k d)) (sym here)
        | inr there ↦ ap name (get_or-set_other entries number i entry d there)
      ]

  pub ranked-set : {N : Type 0} (name : E → N) (lt : N → N → Bool) → ((d : E) → name entry ≡ name (get_or entries number d)) → AreRanked name lt entries order → AreRanked name lt other order
  ranked-set name lt same are = record {
    long = are.long ∙ sym (length-set entries number entry);
    ranking = are.ranking;
    rises = λ d low high less below. ap₂ lt (name_kept name same d (slice_index order low)) (name_kept name same d (slice_index order high)) ∙ are.rises d low high less below;
  }

  -- what is kept by rank, with that of the entry at the rank of the number
  pub by_rank-set : {K : Type 0} (Is : E → K → Type 0) (none k : K) (row : List K) → IsRanking order → AreByRank Is none entries order row → (rank : ℕ) → rank < length order → slice_index order rank ≡ number → Is entry k
      → AreByRank Is none other order (set row rank k)
  by_rank-set Is none k row ranking are rank inside at is = record {
    long = length-set row rank k ∙ are.long;
    row_at = λ d i below. elim (cases_eq i rank) [
      | inl here ↦
          along Is
          (ap (λ (n : ℕ). get_or other n d) (ap (slice_index order) here ∙ at) ∙ get_or-set_same entries number entry d within)
          (ap (λ (n : ℕ). get_or (set row rank k) n none) here ∙ get_or-set_same row rank k none (omega (arith, are.long)))
          is
      | inr there ↦
          let isnt : slice_index order i ≢ number = λ same. there (distinct_numbers order ranking.rank_of ranking.inverse i rank below inside (same ∙ sym at)) in
          along Is (get_or-set_other entries number (slice_index order i) entry d isnt) (get_or-set_other row rank i k none there) (are.row_at d i below)
    ];
  }

-- ---- the last entry taken back

module _ {E : Type 0} (entries : List E) (order : List ℕ) (last rank : ℕ) (ranking : IsRanking order) (within : rank < length order) (at : slice_index order rank + 1 ≡ length order) (end : last + 1 ≡ length order) where
  abbrev fewer : List E
  fewer = take last entries

  abbrev shorter : List ℕ
  shorter = remove order rank

  shorter_long : length shorter ≡ last
  shorter_long = omega (arith, length-remove order rank within, end)

  inside : (i : ℕ) → i < last → slice_index shorter i < last
  inside i below = omega (arith, shorter_long, removed_within order ranking rank within at i (omega (arith, shorter_long)))

  entry-low : (d : E) (i : ℕ) → i < rank → i < last → entry_at fewer shorter d i ≡ entry_at entries order d i
  entry-low d i low below =
      get_or-take last entries (slice_index shorter i) d (inside i below) ∙ ap (λ (n : ℕ). get_or entries n d) (get_or-remove_below order rank 0 i low within)

  entry-high : (d : E) (i : ℕ) → rank ≤ i → i < last → entry_at fewer shorter d i ≡ entry_at entries order d (i + 1)
  entry-high d i high below =
      get_or-take last entries (slice_index shorter i) d (inside i below) ∙ ap (λ (n : ℕ). get_or entries n d) (get_or-remove_above order rank 0 i high within)

  pub by_rank-remove : {K : Type 0} (Is : E → K → Type 0) (none : K) (row : List K) → AreByRank Is none entries order row → AreByRank Is none fewer shorter (remove row rank)
  by_rank-remove Is none row are = record {
    long = omega (arith, length-remove row rank (omega (arith, are.long)), are.long, shorter_long, end);
    row_at = λ d i below.
        let fits : rank < length row = omega (arith, are.long) in
        let i_below : i < last = omega (arith, shorter_long) in
        elim (cases_lt i rank) [
          | inl low ↦ along Is (entry-low d i low i_below) (get_or-remove_below row rank none i low fits) (are.row_at d i (omega (arith, end)))
          | inr high ↦ along Is (entry-high d i high i_below) (get_or-remove_above row rank none i high fits) (are.row_at d (i + 1) (omega (arith, end)))
        ];
  }

-- ---- the search by name

module _ {E N : Type 0} (name : E → N) (lt same : N → N → Bool) (o : IsOrder lt same) (entries : List E) (order : List ℕ) (are : AreRising name lt entries order) (a : N) where
  abbrev not_past : ℕ → Bool
  not_past = is_up_to name lt entries a

  not_past-at : (d : E) (i : ℕ) → i < length order → not_past (slice_index order i) ≡ not (lt a (name (entry_at entries order d i)))
  not_past-at d i within =
      ap (some_up_to name lt a) (slice_get-get_or entries (slice_index order i) d (are.within i within))

  not_past-down : (d : E) (i j : ℕ) → i ≤ j → j < length order → lt a (name (entry_at entries order d j)) ≡ false → lt a (name (entry_at entries order d i)) ≡ false
  not_past-down d i j le within isnt =
      false_from_ne_true (lt a (name (entry_at entries order d i))) (λ is.
      elim (cases_eq i j) [
        | inl equal ↦ both_ways (lt a (name (entry_at entries order d j))) isnt (ap (λ (k : ℕ). lt a (name (entry_at entries order d k))) (sym equal) ∙ is)
        | inr other ↦
            both_ways (lt a (name (entry_at entries order d j))) isnt (o.chain a (name (entry_at entries order d i)) (name (entry_at entries order d j)) is (are.rises d i j (omega arith) within))
      ])

  partitioned : (d : E) → IsPartitionedBy not_past order
  partitioned d i j n le within is =
      let i_within : i < length order = omega arith in
      let not_there = not-true (lt a (name (entry_at entries order d j))) (sym (not_past-at d j within) ∙ ap not_past (get_or_default order j 0 n within) ∙ is) in
      ap not_past (get_or_default order i n 0 i_within) ∙ not_past-at d i i_within ∙ not_from_false (lt a (name (entry_at entries order d i))) (not_past-down d i j le within not_there)

  -- what the search finds
  pub first_past-from : (after : Option N) (i : ℕ) → after ≡ Some a → i ≤ length order → (IsPartitionedBy not_past order → IsPartitionPoint (λ number. not_past number ≡ true) (λ number. not_past number ≡ false) order i)
      → IsFirstPast name lt after entries order i
  first_past-from after i is within search = subst (λ (after : Option N). IsFirstPast name lt after entries order i) (sym is) (record {
    within = within;
    before = λ d k low.
        not-true (lt a (name (entry_at entries order d k))) (sym (not_past-at d k (omega arith)) ∙ (search (partitioned d)).0 k 0 (omega arith) low);
    past = λ d k high below.
        not-false (lt a (name (entry_at entries order d k))) (sym (not_past-at d k below) ∙ (search (partitioned d)).1 k 0 high below);
  })

-- a name is less where its rank is
pub rank-before : {E N : Type 0} (name : E → N) (lt same : N → N → Bool) → IsOrder lt same → (entries : List E) (order : List ℕ) → AreRanked name lt entries order → (d : E) (m n i j : ℕ)
    → i < length order → slice_index order i ≡ m → j < length order → slice_index order j ≡ n → nat_lt i j ≡ lt (name (get_or entries m d)) (name (get_or entries n d))
rank-before {E} {N} name lt same o entries order are d m n i j within at inside there =
    elim (cases_order i j) [
      | inl level ↦ le-ltb i j (omega (arith, level)) ∙ sym (own-same (sym at ∙ ap (slice_index order) level ∙ there))
      | inr apart ↦ elim apart [
        | inl less ↦ lt-ltb i j less ∙ sym (named i m at j n there ∙ are.rises d i j less inside)
        | inr more ↦ le-ltb i j (omega (arith, more)) ∙ sym (o.one_way _ _ (named j n there i m at ∙ are.rises d j i more within))
      ]
    ]
  where
    named : (i m : ℕ) → slice_index order i ≡ m → (j n : ℕ) → slice_index order j ≡ n
        → lt (name (get_or entries m d)) (name (get_or entries n d)) ≡ lt (name (entry_at entries order d i)) (name (entry_at entries order d j))
    named i m at j n there = ap₂ (λ (x y : ℕ). lt (name (get_or entries x d)) (name (get_or entries y d))) (sym at) (sym there)

    own-same : m ≡ n → lt (name (get_or entries m d)) (name (get_or entries n d)) ≡ false
    own-same same_number =
        let a = name (get_or entries m d) in
        ap (λ (y : ℕ). lt a (name (get_or entries y d))) (sym same_number) ∙ false_from_ne_true (lt a a) (λ less. both_ways (lt a a) (o.one_way a a less) less)

-- the names past the rank of an entry are greater than its own
pub first_past-rank : {E N : Type 0} (name : E → N) (lt same : N → N → Bool) → IsOrder lt same → (entries : List E) (order : List ℕ) → AreRanked name lt entries order
    → (d : E) (number rank : ℕ) → rank < length order → slice_index order rank ≡ number → IsFirstPast name lt (Some (name (get_or entries number d))) entries order (rank + 1)
first_past-rank {E} {N} name lt same o entries order are d number rank within at = record {
  within = omega (arith, within);
  before = λ e i low.
      elim (cases_eq i rank) [
        | inl here ↦ ap (lt a) (ap (λ (r : ℕ). name (entry_at entries order e r)) here ∙ own e) ∙ false_from_ne_true (lt a a) (λ less. both_ways (lt a a) (o.one_way a a less) less)
        | inr other ↦ ap (λ (b : N). lt b (name (entry_at entries order e i))) (sym (own e)) ∙ o.one_way _ _ (are.rises e i rank (omega arith) within)
      ];
  past = λ e i high below. ap (λ (b : N). lt b (name (entry_at entries order e i))) (sym (own e)) ∙ are.rises e rank i (omega arith) below;
}
  where
    a : N
    a = name (get_or entries number d)

    own : (e : E) → name (entry_at entries order e rank) ≡ a
    own e =
        ap name (get_or_default entries (slice_index order rank) e d (omega (arith, are.ranking.inverse.number_within rank within, are.long)) ∙ ap (λ (n : ℕ). get_or entries n d) at)
