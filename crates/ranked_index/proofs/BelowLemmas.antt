-- The numbers below a length, in their order.
use Rattle.ranked_index.proofs.Prelude.{◌≡◌, ◌∙◌, ℕ, suc, ◌+◌, ◌<◌, ◌≤◌, Bool, true, false, List, [], ◌∷◌, ◌++◌, length, take, drop, filter, nat_lt, refl, sym, ap, arith, cond-true, cond-false, le-ltb, lt-ltb, ltb-false, take_all, take-append-drop, take-take, length-remove, insert, remove, slice_index, if◌then◌else◌}
use Rattle.std.proofs.Math.Seq.{drop-cons}
use Rattle.std.proofs.lemmas.List.Elements.{filter-append}
use Rattle.ranked_index.specs.Leaves.{numbers_below, truncated, PlainResumes}
use Rattle.ranked_index.specs.Ranking.{IsRanking}
use Rattle.ranked_index.proofs.RankLemmas.{removed_within}

-- all pass
filter-keeps : (passes : ℕ → Bool) (xs : List ℕ) → ((i : ℕ) → i < length xs → passes (slice_index xs i) ≡ true) → filter passes xs ≡ xs
filter-keeps passes [] all = refl
filter-keeps passes (x ∷ xs) all =
    cond-true (passes x) (x ∷ filter passes xs) (filter passes xs) (all 0 (omega arith)) ∙ ap (λ (rest : List ℕ). x ∷ rest) (filter-keeps passes xs (λ i within. all (suc i) (omega arith)))

-- one between others doesn't pass
filter-skips : (passes : ℕ → Bool) (xs ys : List ℕ) (y : ℕ) → passes y ≡ false → filter passes (xs ++ y ∷ ys) ≡ filter passes (xs ++ ys)
filter-skips passes xs ys y isnt =
    filter-append passes xs (y ∷ ys) ∙ ap (λ (rest : List ℕ). filter passes xs ++ rest) (cond-false (passes y) (y ∷ filter passes ys) (filter passes ys) isnt)
    ∙ sym (filter-append passes xs ys)

-- those below the length are all
pub below-all : (len : ℕ) (order : List ℕ) → IsRanking order → length order ≤ len → numbers_below len order ≡ order
below-all len order ranking most = filter-keeps (λ number. nat_lt number len) order (λ i within. lt-ltb (slice_index order i) len (omega (arith, ranking.inverse.number_within i within)))

-- a number that isn't below the length changes nothing
pub below-insert : (len rank number : ℕ) (order : List ℕ) → len ≤ number → numbers_below len (insert order rank number) ≡ numbers_below len order
below-insert len rank number order past =
    filter-skips (λ number. nat_lt number len) (take rank order) (drop rank order) number (le-ltb number len past) ∙ ap (numbers_below len) (take-append-drop rank order)

-- all but the last
pub below-last : (last rank : ℕ) (order : List ℕ) → IsRanking order → rank < length order → slice_index order rank + 1 ≡ length order → last + 1 ≡ length order → numbers_below last order ≡ remove order rank
below-last last rank order ranking within at end =
    let here : slice_index order rank ≡ last = omega (arith, at, end) in
    ap (numbers_below last)
    (sym (take-append-drop rank order) ∙ ap (λ (rest : List ℕ). take rank order ++ rest) (drop-cons order rank 0 within ∙ ap (λ (n : ℕ). n ∷ drop (suc rank) order) here))
    ∙ filter-skips (λ number. nat_lt number last) (take rank order) (drop (suc rank) order) last (le-ltb last last (omega arith))
    ∙ filter-keeps (λ number. nat_lt number last) (remove order rank) (λ i below.
    lt-ltb (slice_index (remove order rank) i) last (omega (arith, end, length-remove order rank within, removed_within order ranking rank within at i below)))

-- those below the lesser of two lengths
below-twice : (len more : ℕ) (order : List ℕ) → len ≤ more → numbers_below len (numbers_below more order) ≡ numbers_below len order
below-twice len more [] le = refl
below-twice len more (n ∷ order) le = by (nat_lt n more) refl (below-twice len more order le)
  where
    by : (b : Bool) → nat_lt n more ≡ b → numbers_below len (numbers_below more order) ≡ numbers_below len order → numbers_below len (if b then n ∷ numbers_below more order else numbers_below more order) ≡ numbers_below len (n ∷ order)
    by true is later = ap (λ (rest : List ℕ). if nat_lt n len then n ∷ rest else rest) later
    by false isnt later =
        later
        ∙ sym (cond-false (nat_lt n len) (n ∷ numbers_below len order) (numbers_below len order) (le-ltb n len (omega (arith, le, ltb-false n more isnt))))

pub truncated-twice : (len more : ℕ) (r : PlainResumes) → len ≤ more → truncated len (truncated more r) ≡ truncated len r
truncated-twice len more r le = λ i. record { leaves = take-take len more r.leaves le i; order = below-twice len more r.order le i }

pub truncated-all : (len : ℕ) (r : PlainResumes) → IsRanking r.order → length r.order ≡ length r.leaves → length r.leaves ≤ len → truncated len r ≡ r
truncated-all len r ranking long most = λ i. record { leaves = take_all len r.leaves most i; order = below-all len r.order ranking (omega (arith, long)) i }
