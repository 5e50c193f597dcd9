-- Numbers and ranks where a number is put in or taken out.
use Rattle.ranked_index.proofs.Prelude.{◌≡◌, ◌≢◌, ◌∙◌, ap, sym, refl, subst, ℕ, zero, suc, ◌+◌, ◌-◌, ◌<◌, ◌≤◌, inl, inr, Bool, true, ◌||◌, List, [], ◌∷◌, ◌++◌, length, get_or, take, Option, Some, None, arith, both_ways, cases_lt, cases_eq, cases_order, eq-eqb, eqb-true, ne_eqb, get_or_append_left, get_or_default, get_or-take, length-insert, get_or-insert_at, get_or-insert_below, get_or-insert_above, length-remove, get_or-remove_below, get_or-remove_above, insert, list_any, remove, slice_index, unwrap_or, ◌==◌, first_at-None, first_at-Some, first_at}
use Rattle.std.proofs.Math.Dec.{eqb}
use Rattle.std.proofs.lemmas.Map.Keys.{IsDistinct-from_apart}
use Rattle.std.proofs.lemmas.Map.Steps.{length-le_from_distinct_below}
use Rattle.ranked_index.specs.Listed.{IsListed}
use Rattle.ranked_index.specs.Ranking.{AreRanks, IsInverse, IsRanking, IsReranked}
use Rattle.ranked_index.specs.Ranks.{rank_in}

-- a place in a list with one more at a rank: before the rank, the rank, or past it
pub data Placed (rank i : ℕ) : Type 0 where
  Before : i < rank → Placed rank i
  Here : i ≡ rank → Placed rank i
  Past : (j : ℕ) → i ≡ j + 1 → rank ≤ j → Placed rank i

pub placed : (rank i : ℕ) → Placed rank i
placed rank i =
    elim (cases_lt i rank) [
      | inl less ↦ Before less
      | inr more ↦ elim (cases_eq i rank) [
        | inl same ↦ Here same
        | inr other ↦ Past (i - 1) (omega arith) (omega arith)
      ]
    ]

module _ {A : Type 0} (xs : List A) (rank : ℕ) (x d : A) (fits : rank ≤ length xs) where
  pub insert-before : (i : ℕ) → i < rank → get_or (insert xs rank x) i d ≡ get_or xs i d
  insert-before i less = get_or-insert_below xs rank x d i less fits

  pub insert-here : (i : ℕ) → i ≡ rank → get_or (insert xs rank x) i d ≡ x
  insert-here i same = ap (λ (k : ℕ). get_or (insert xs rank x) k d) same ∙ get_or-insert_at xs rank x d fits

  pub insert-past : (i j : ℕ) → i ≡ j + 1 → rank ≤ j → get_or (insert xs rank x) i d ≡ get_or xs j d
  insert-past i j next more =
      ap (λ (k : ℕ). get_or (insert xs rank x) k d) next ∙ get_or-insert_above xs rank x d j more fits

-- what holds of two holds of the same ones
pub along : {A B : Type 0} (Is : A → B → Type 0) {a a' : A} {b b' : B} → a ≡ a' → b ≡ b' → Is a' b' → Is a b
along {A} {B} Is {a} {a'} {b} {b'} first second is = subst (λ (x : A). Is x b) (sym first) (subst (Is a') (sym second) is)

module _ (ns : List ℕ) (place n : ℕ) (fits : place ≤ length ns) where
  -- what holds of each number and of one more holds of each with it
  pub inserted_each : (P : ℕ → Type 0) → ((i : ℕ) → i < length ns → P (slice_index ns i)) → P n → (i : ℕ) → i < length (insert ns place n) → P (slice_index (insert ns place n) i)
  inserted_each P each new i within = by (placed place i)
    where
      by : Placed place i → P (slice_index (insert ns place n) i)
      by (Before low) = subst P (sym (insert-before ns place n 0 fits i low)) (each i (omega (arith, fits)))
      by (Here same) = subst P (sym (insert-here ns place n 0 fits i same)) new
      by (Past j next high) = subst P (sym (insert-past ns place n 0 fits i j next high)) (each j (omega (arith, within, next, length-insert ns place n fits)))

  -- what holds of each two in their order, and of those before and after one more with it, holds with it
  pub inserted_pairs : (R : ℕ → ℕ → Type 0) → ((i j : ℕ) → i < j → j < length ns → R (slice_index ns i) (slice_index ns j))
      → ((i : ℕ) → i < place → R (slice_index ns i) n) → ((i : ℕ) → place ≤ i → i < length ns → R n (slice_index ns i))
      → (i j : ℕ) → i < j → j < length (insert ns place n) → R (slice_index (insert ns place n) i) (slice_index (insert ns place n) j)
  inserted_pairs R pairs before after i j less within = by (placed place j)
    where
      long : length (insert ns place n) ≡ length ns + 1
      long = length-insert ns place n fits

      by : Placed place j → R (slice_index (insert ns place n) i) (slice_index (insert ns place n) j)
      by (Before low) =
          along R (insert-before ns place n 0 fits i (omega (arith, less, low))) (insert-before ns place n 0 fits j low) (pairs i j less (omega (arith, fits, low)))
      by (Here same) =
          let low : i < place = omega (arith, less, same) in
          along R (insert-before ns place n 0 fits i low) (insert-here ns place n 0 fits j same) (before i low)
      by (Past k next high) =
          let below : k < length ns = omega (arith, within, next, long) in
          let at_k = insert-past ns place n 0 fits j k next high in
          elim (placed place i) [
            | Before low ↦ along R (insert-before ns place n 0 fits i low) at_k (pairs i k (omega (arith, low, high)) below)
            | Here same ↦ along R (insert-here ns place n 0 fits i same) at_k (after k high below)
            | Past h after_h high_h ↦ along R (insert-past ns place n 0 fits i h after_h high_h) at_k (pairs h k (omega (arith, less, next, after_h)) below)
          ]

module _ (ns : List ℕ) (place : ℕ) (inside : place < length ns) where
  -- what holds of each other number holds of each that is left
  pub removed_each : (P : ℕ → Type 0) → ((i : ℕ) → i < length ns → i ≢ place → P (slice_index ns i)) → (i : ℕ) → i < length (remove ns place) → P (slice_index (remove ns place) i)
  removed_each P each i within =
      elim (cases_lt i place) [
        | inl low ↦ subst P (sym (get_or-remove_below ns place 0 i low inside)) (each i (omega arith) (λ same. omega arith))
        | inr high ↦
            subst P (sym (get_or-remove_above ns place 0 i high inside))
            (each (i + 1) (omega (arith, length-remove ns place inside)) (λ same. omega arith))
      ]

  -- what holds of each two in their order holds of those that are left
  pub removed_pairs : (R : ℕ → ℕ → Type 0) → ((i j : ℕ) → i < j → j < length ns → R (slice_index ns i) (slice_index ns j))
      → (i j : ℕ) → i < j → j < length (remove ns place) → R (slice_index (remove ns place) i) (slice_index (remove ns place) j)
  removed_pairs R pairs i j less within =
      let long = length-remove ns place inside in
      elim (cases_lt j place) [
        | inl low ↦
            along R (get_or-remove_below ns place 0 i (omega arith) inside) (get_or-remove_below ns place 0 j low inside) (pairs i j less (omega arith))
        | inr high ↦ elim (cases_lt i place) [
          | inl low ↦
              along R (get_or-remove_below ns place 0 i low inside) (get_or-remove_above ns place 0 j high inside) (pairs i (j + 1) (omega arith) (omega (arith, long)))
          | inr also ↦
              along R (get_or-remove_above ns place 0 i also inside) (get_or-remove_above ns place 0 j high inside) (pairs (i + 1) (j + 1) (omega arith) (omega (arith, long)))
        ]
      ]

-- what stands among numbers below a bound is below it
found_below : (n found : ℕ) (ns : List ℕ) → ((i : ℕ) → i < length ns → slice_index ns i < n) → list_any (eqb found) ns ≡ true → found < n
found_below n found [] below is = absurd (cc)
found_below n found (m ∷ ns) below is =
    elim (cases_eq found m) [
      | inl here ↦ omega (arith, below 0 (omega arith))
      | inr other ↦ found_below n found ns (λ i within. below (suc i) (omega arith)) (ap (λ (b : Bool). b || list_any (eqb found) ns) (sym (ne_eqb found m other)) ∙ is)
    ]

-- distinct numbers below a bound are at most as many
distinct_below : (n : ℕ) (ns : List ℕ) → ((i : ℕ) → i < length ns → slice_index ns i < n) → ((i j : ℕ) → i < j → j < length ns → slice_index ns i ≢ slice_index ns j) → length ns ≤ n
distinct_below n ns below apart =
    length-le_from_distinct_below ns n
    (IsDistinct-from_apart eqb ns (λ i j d less within.
    ne_eqb (get_or ns i d) (get_or ns j d) (λ same. apart i j less within (get_or_default ns i 0 d (omega arith) ∙ same ∙ get_or_default ns j d 0 within))))
    (λ found is. found_below n found ns below is)

-- where one is missing, they are fewer
pub room_below : (n m : ℕ) (ns : List ℕ) → m < n → ((i : ℕ) → i < length ns → slice_index ns i < n) → ((i j : ℕ) → i < j → j < length ns → slice_index ns i ≢ slice_index ns j) → (IsListed ns m → ⊥)
    → length ns < n
room_below n m ns inside below apart isnt = omega (arith, distinct_below n (m ∷ ns) below_more apart_more)
  where
    below_more : (i : ℕ) → i < length (m ∷ ns) → slice_index (m ∷ ns) i < n
    below_more zero within = inside
    below_more (suc i) within = below i (omega (arith, within))

    apart_more : (i j : ℕ) → i < j → j < length (m ∷ ns) → slice_index (m ∷ ns) i ≢ slice_index (m ∷ ns) j
    apart_more i zero less within = absurd (omega (arith, less))
    apart_more zero (suc j) less within = λ same. isnt (record { place = j; within = omega (arith, within); at = sym same })
    apart_more (suc i) (suc j) less within = apart i j (omega (arith, less)) (omega (arith, within))

pub distinct_numbers : (order : List ℕ) (rank_of : ℕ → ℕ) → IsInverse order rank_of → (i j : ℕ) → i < length order → j < length order → slice_index order i ≡ slice_index order j → i ≡ j
distinct_numbers order rank_of is i j i_within j_within same = sym (is.back i i_within) ∙ ap rank_of same ∙ is.back j j_within

distinct : (order : List ℕ) → IsRanking order → (i j : ℕ) → i < j → j < length order → slice_index order i ≢ slice_index order j
distinct order ranking i j less within same = omega (arith, distinct_numbers order ranking.rank_of ranking.inverse i j (omega arith) within same)

-- ---- numbers below their length, each once

module _ (order : List ℕ) (within : (rank : ℕ) → rank < length order → slice_index order rank < length order) (apart : (i j : ℕ) → i < j → j < length order → slice_index order i ≢ slice_index order j) where
  -- the rank that is found has the number
  found_at : (number : ℕ) → number < length order → (rank_in order number < length order) × (slice_index order (rank_in order number) ≡ number)
  found_at number below = by (first_at (λ other. other == number) 0 order) refl
    where
      by : (found : Option ℕ) → first_at (λ other. other == number) 0 order ≡ found → (unwrap_or found 0 < length order) × (slice_index order (unwrap_or found 0) ≡ number)
      by None none =
          let fewer : length order < length order =
          room_below (length order) number order below within apart (λ is.
          both_ways (slice_index order is.place == number) (first_at-None (λ other. other == number) 0 order 0 none is.place is.within) (eq-eqb (slice_index order is.place) number is.at)) in
          absurd (omega arith)
      by (Some rank) is =
          let met = first_at-Some (λ other. other == number) 0 order 0 rank is in
          let here : rank ≡ met.place = omega (arith, met.at) in
          (omega (arith, met.within), ap (slice_index order) here ∙ eqb-true (slice_index order met.place) number met.is)

  same_rank : (i j : ℕ) → i < length order → j < length order → slice_index order i ≡ slice_index order j → i ≡ j
  same_rank i j i_within j_within same =
      elim (cases_order i j) [
        | inl level ↦ level
        | inr other ↦ elim other [ inl less ↦ absurd (apart i j less j_within same) | inr more ↦ absurd (apart j i more i_within (sym same)) ]
      ]

  pub ranking-from : IsRanking order
  ranking-from = record {
    rank_of = rank_in order;
    inverse = record {
      number_within = within;
      back = λ rank inside. let at = found_at (slice_index order rank) (within rank inside) in same_rank (rank_in order (slice_index order rank)) rank at.0 inside at.1;
      rank_within = λ number below. (found_at number below).0;
      forth = λ number below. (found_at number below).1;
    };
  }

-- the rank that is found in a ranking has the number
pub rank_in-is : (order : List ℕ) → IsRanking order → (number : ℕ) → number < length order → (rank_in order number < length order) × (slice_index order (rank_in order number) ≡ number)
rank_in-is order ranking = found_at order ranking.inverse.number_within (distinct order ranking)

-- ---- ranks given anew

-- ranks that are given anew from one on, where those below it were right
ranks-given : (order old new : List ℕ) (rank_of : ℕ → ℕ) (from : ℕ) → IsInverse order rank_of → length new ≡ length order → IsReranked order old new from (length order)
    → ((number : ℕ) → number < length order → rank_of number < from → slice_index old number ≡ rank_of number) → AreRanks order new
ranks-given order old new rank_of from is long given kept = record {
  long = long;
  inverse = record {
    number_within = is.number_within;
    back = λ rank within. agree (slice_index order rank) (is.number_within rank within) ∙ is.back rank within;
    rank_within = λ number within. omega (arith, agree number within, is.rank_within number within);
    forth = λ number within. ap (slice_index order) (agree number within) ∙ is.forth number within;
  };
}
  where
    agree : (number : ℕ) → number < length order → slice_index new number ≡ rank_of number
    agree number within =
        elim (cases_lt (rank_of number) from) [
          | inl low ↦
              given.elsewhere number (λ rank after below same. absurd (omega (arith, sym (is.back rank below) ∙ ap rank_of same)))
              ∙ kept number within low
          | inr high ↦ ap (slice_index new) (sym (is.forth number within)) ∙ given.here (rank_of number) high (is.rank_within number within)
        ]

-- ---- a number more, or one fewer

pub ranking-insert : (order : List ℕ) → IsRanking order → (rank : ℕ) → rank ≤ length order → IsRanking (insert order rank (length order))
ranking-insert order ranking rank fits =
    let more = insert order rank (length order) in
    let long = length-insert order rank (length order) fits in
    ranking-from more
    (inserted_each order rank (length order) fits (λ n. n < length more) (λ i within. omega (arith, long, ranking.inverse.number_within i within)) (omega (arith, long)))
    (inserted_pairs order rank (length order) fits (λ m n. m ≢ n) (distinct order ranking)
    (λ i low same. omega (arith, ranking.inverse.number_within i (omega (arith, fits)), same))
    (λ i high within same. omega (arith, ranking.inverse.number_within i within, same)))

module _ (order : List ℕ) (ranking : IsRanking order) (rank : ℕ) (within : rank < length order) (last : slice_index order rank + 1 ≡ length order) where
  pub removed_within : (i : ℕ) → i < length (remove order rank) → slice_index (remove order rank) i < length (remove order rank)
  removed_within =
      removed_each order rank within (λ n. n < length (remove order rank)) (λ i inside other.
      let isnt : slice_index order i ≢ slice_index order rank = λ same. other (distinct_numbers order ranking.rank_of ranking.inverse i rank inside within same) in
      omega (arith, last, length-remove order rank within, isnt, ranking.inverse.number_within i inside))

  pub ranking-remove : IsRanking (remove order rank)
  ranking-remove = ranking-from (remove order rank) removed_within (removed_pairs order rank within (λ m n. m ≢ n) (distinct order ranking))

pub ranking_of : (order ranks : List ℕ) → AreRanks order ranks → IsRanking order
ranking_of order ranks are = record { rank_of = slice_index ranks; inverse = are.inverse }

-- the ranks with the next number at a rank
pub ranks-insert : (order ranks : List ℕ) → AreRanks order ranks → (rank : ℕ) → rank ≤ length order → (new : List ℕ) → length new ≡ length ranks + 1
    → IsReranked (insert order rank (length order)) (ranks ++ rank ∷ []) new rank (length (insert order rank (length order))) → AreRanks (insert order rank (length order)) new
ranks-insert order ranks are rank fits new long given =
    let ranking = ranking-insert order (ranking_of order ranks are) rank fits in
    ranks-given (insert order rank (length order)) (ranks ++ rank ∷ []) new ranking.rank_of rank ranking.inverse (omega (arith, long, are.long, length-insert order rank (length order) fits)) given
    (λ number within low.
    let r = ranking.rank_of number in
    let inside : r < length order = omega (arith, low, fits) in
    let at : slice_index order r ≡ number = sym (insert-before order rank (length order) 0 fits r low) ∙ ranking.inverse.forth number within in
    get_or_append_left ranks (rank ∷ []) 0 number (omega (arith, at, are.long, are.inverse.number_within r inside)) ∙ ap (slice_index ranks) (sym at) ∙ are.inverse.back r inside)

-- the ranks without the last number
pub ranks-remove : (order ranks new : List ℕ) (rank last : ℕ) → AreRanks order ranks → rank < length order → slice_index order rank ≡ last → last + 1 ≡ length order → length new ≡ last
    → IsReranked (remove order rank) (take last ranks) new rank (length (remove order rank)) → AreRanks (remove order rank) new
ranks-remove order ranks new rank last are within at end long given =
    let ranking = ranking-remove order (ranking_of order ranks are) rank within (omega (arith, at, end)) in
    ranks-given (remove order rank) (take last ranks) new ranking.rank_of rank ranking.inverse (omega (arith, long, end, length-remove order rank within)) given
    (λ number inside low.
    let r = ranking.rank_of number in
    let there : slice_index order r ≡ number = sym (get_or-remove_below order rank 0 r low within) ∙ ranking.inverse.forth number inside in
    get_or-take last ranks number 0 (omega (arith, end, length-remove order rank within)) ∙ ap (slice_index ranks) (sym there) ∙ are.inverse.back r (omega (arith, low, within)))

-- a number that is put in and taken out again
pub remove-insert : {A : Type 0} (xs : List A) (rank : ℕ) (x : A) → rank ≤ length xs → remove (insert xs rank x) rank ≡ xs
remove-insert xs zero x fits = refl
remove-insert [] (suc rank) x fits = absurd (omega arith)
remove-insert (y ∷ xs) (suc rank) x fits = ap (λ rest. y ∷ rest) (remove-insert xs rank x (omega arith))
