-- Rising numbers, one of which is added or taken out.
use Rattle.std.proofs.Common.{◌≡◌, ℕ, zero, suc, ◌<◌, ◌≤◌, Bool, true, false, ◌&&◌, List, [], ◌∷◌, length, filter, get_or, if◌then◌else◌, refl, sym, ap, nat_le, nat_lt, ◌==◌, arith}
use Rattle.std.specs.List.{insert}
use Rattle.std.proofs.lemmas.Bool.{and_from, and_parts, cond_both, eq-eqb, le-leb, le-ltb, leb-true, lt-ltb, ltb-false, ltb-true, ne_eqb, eqb-false}
use Rattle.consumer_grain.specs.Activations.{is_in, with_number}
use Rattle.consumer_grain.specs.Handled.{rises_from}
use Rattle.consumer_grain.proofs.RisingLemmas.{rises_from-lower}

-- none is below where they rise from
pub rises_from-at_least : (n : ℕ) (xs : List ℕ) (i : ℕ) → rises_from n xs ≡ true → i < length xs → n ≤ get_or xs i 0
rises_from-at_least n [] i rises within = absurd (omega arith)
rises_from-at_least n (x ∷ xs) zero rises within = leb-true n x (and_parts (nat_le n x) (rises_from (suc x) xs) rises).0
rises_from-at_least n (x ∷ xs) (suc i) rises within =
    let parts = and_parts (nat_le n x) (rises_from (suc x) xs) rises in
    let first = leb-true n x parts.0 in
    let rest = rises_from-at_least (suc x) xs i parts.1 (omega arith) in
    omega arith

-- by index, as a binary search asks
pub rises-index : (n : ℕ) (xs : List ℕ) → rises_from n xs ≡ true → (i j : ℕ) → i ≤ j → j < length xs → get_or xs i 0 ≤ get_or xs j 0
rises-index n [] rises i j le within = absurd (omega arith)
rises-index n (x ∷ xs) rises zero zero le within = omega arith
rises-index n (x ∷ xs) rises zero (suc j) le within =
    let rest = rises_from-at_least (suc x) xs j (and_parts (nat_le n x) (rises_from (suc x) xs) rises).1 (omega arith) in
    omega arith
rises-index n (x ∷ xs) rises (suc i) zero le within = absurd (omega arith)
rises-index n (x ∷ xs) rises (suc i) (suc j) le within =
    rises-index (suc x) xs (and_parts (nat_le n x) (rises_from (suc x) xs) rises).1 i j (omega arith) (omega arith)

-- a number that is there isn't added
pub with_number-there : (k n : ℕ) (xs : List ℕ) (i : ℕ) → rises_from k xs ≡ true → i < length xs → get_or xs i 0 ≡ n → xs ≡ with_number n xs
with_number-there k n [] i rises within is = absurd (omega arith)
with_number-there k n (x ∷ xs) zero rises within is =
    let not_less = le-ltb n x (omega arith) in
    let same = eq-eqb n x (sym is) in
    rw (not_less, same) refl
with_number-there k n (x ∷ xs) (suc i) rises within is =
    let rest = (and_parts (nat_le k x) (rises_from (suc x) xs) rises).1 in
    let more = rises_from-at_least (suc x) xs i rest (omega arith) in
    let not_less = le-ltb n x (omega arith) in
    let other = ne_eqb n x (λ same. omega arith) in
    rw (not_less, other) (ap (λ ys. x ∷ ys) (with_number-there (suc x) n xs i rest (omega arith) is))

-- one that isn't goes into its gap
pub with_number-gap : (n : ℕ) (xs : List ℕ) (i : ℕ) → i ≤ length xs → ((k : ℕ) → k < i → get_or xs k 0 < n) → ((k : ℕ) → i ≤ k → k < length xs → n < get_or xs k 0) → insert xs i n ≡ with_number n xs
with_number-gap n [] zero within before after = refl
with_number-gap n [] (suc i) within before after = absurd (omega arith)
with_number-gap n (x ∷ xs) zero within before after =
    let first : n < x = after 0 (omega arith) (omega arith) in
    let less = lt-ltb n x first in
    rw less refl
with_number-gap n (x ∷ xs) (suc i) within before after =
    let first : x < n = before 0 (omega arith) in
    let not_less = le-ltb n x (omega arith) in
    let other = ne_eqb n x (λ same. omega arith) in
    rw (not_less, other) (ap (λ ys. x ∷ ys) (with_number-gap n xs i (omega arith) (λ k lt. before (suc k) (omega arith)) (λ k le lt. after (suc k) (omega arith) (omega arith))))

-- and wasn't among them
pub is_in-gap : (n : ℕ) (xs : List ℕ) (i : ℕ) → ((k : ℕ) → k < i → get_or xs k 0 < n) → ((k : ℕ) → i ≤ k → k < length xs → n < get_or xs k 0) → is_in xs n ≡ false
is_in-gap n [] i before after = refl
is_in-gap n (x ∷ xs) zero before after =
    let first : n < x = after 0 (omega arith) (omega arith) in
    let other = ne_eqb x n (λ same. omega arith) in
    rw other (is_in-gap n xs zero (λ k lt. absurd (omega arith)) (λ k le lt. after (suc k) (omega arith) (omega arith)))
is_in-gap n (x ∷ xs) (suc i) before after =
    let first : x < n = before 0 (omega arith) in
    let other = ne_eqb x n (λ same. omega arith) in
    rw other (is_in-gap n xs i (λ k lt. before (suc k) (omega arith)) (λ k le lt. after (suc k) (omega arith) (omega arith)))

-- they still rise with one more
pub rises-with_number : (k n : ℕ) (xs : List ℕ) → k ≤ n → rises_from k xs ≡ true → rises_from k (with_number n xs) ≡ true
rises-with_number k n [] le rises = and_from (nat_le k n) true (le-leb k n le) refl
rises-with_number k n (x ∷ xs) le rises =
    let parts = and_parts (nat_le k x) (rises_from (suc x) xs) rises in
    cond_both (nat_lt n x) (n ∷ x ∷ xs) (if n == x then x ∷ xs else x ∷ with_number n xs) (λ ys. rises_from k ys ≡ true)
    (λ less.
    let lt = ltb-true n x less in
    and_from (nat_le k n) (nat_le (suc n) x && rises_from (suc x) xs) (le-leb k n le) (and_from (nat_le (suc n) x) (rises_from (suc x) xs) (le-leb (suc n) x (omega arith)) parts.1))
    (λ not_less. cond_both (n == x) (x ∷ xs) (x ∷ with_number n xs) (λ ys. rises_from k ys ≡ true)
    (λ _. rises)
    (λ other.
    let ge = ltb-false n x not_less in
    let ne = eqb-false n x other in
    and_from (nat_le k x) (rises_from (suc x) (with_number n xs)) parts.0 (rises-with_number (suc x) n xs (omega arith) parts.1)))

-- and with some of them gone
pub rises-filter : (p : ℕ → Bool) (k : ℕ) (xs : List ℕ) → rises_from k xs ≡ true → rises_from k (filter p xs) ≡ true
rises-filter p k [] rises = refl
rises-filter p k (x ∷ xs) rises =
    let parts = and_parts (nat_le k x) (rises_from (suc x) xs) rises in
    let le = leb-true k x parts.0 in
    let rest = rises-filter p (suc x) xs parts.1 in
    cond_both (p x) (x ∷ filter p xs) (filter p xs) (λ ys. rises_from k ys ≡ true)
    (λ _. and_from (nat_le k x) (rises_from (suc x) (filter p xs)) parts.0 rest)
    (λ _. rises_from-lower k (suc x) (filter p xs) (omega arith) rest)
