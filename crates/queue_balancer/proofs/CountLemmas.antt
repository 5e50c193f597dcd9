-- Counts of a silo in lists.
use Rattle.std.proofs.Common.{◌≡◌, ◌≢◌, ℕ, zero, suc, ◌+◌, ◌<◌, ◌≤◌, List, [], ◌∷◌, ◌++◌, length, get_or, cond, eqb, sym, ◌∙◌, ap, refl, arith, ⊎_elim}
use Rattle.std.proofs.lemmas.Bool.{eq-eqb, ne_eqb, cases_eq}
use Rattle.std.proofs.lemmas.List.Sums.{sum_by-cons, sum_by-append}
use Rattle.queue_balancer.specs.Balance.{count, HasNoDoubles}

pub count-cons : (silo x : ℕ) (xs : List ℕ) → count silo (x ∷ xs) ≡ cond (eqb x silo) 1 0 + count silo xs
count-cons silo x xs = sum_by-cons (λ other. cond (eqb other silo) 1 0) x xs

pub count-cons_same : (silo x : ℕ) (xs : List ℕ) → x ≡ silo → count silo (x ∷ xs) ≡ 1 + count silo xs
count-cons_same silo x xs same = count-cons silo x xs ∙ ap (λ b. cond b 1 0 + count silo xs) (eq-eqb x silo same)

pub count-cons_other : (silo x : ℕ) (xs : List ℕ) → x ≢ silo → count silo (x ∷ xs) ≡ count silo xs
count-cons_other silo x xs other =
    let e : count silo (x ∷ xs) ≡ 0 + count silo xs =
    count-cons silo x xs ∙ ap (λ b. cond b 1 0 + count silo xs) (ne_eqb x silo other) in omega (arith, e)

pub count-append : (silo : ℕ) (xs ys : List ℕ) → count silo (xs ++ ys) ≡ count silo xs + count silo ys
count-append silo xs ys = sum_by-append (λ other. cond (eqb other silo) 1 0) xs ys

pub count-le-cons : (silo x : ℕ) (xs : List ℕ) → count silo xs ≤ count silo (x ∷ xs)
count-le-cons silo x xs = omega (arith, count-cons silo x xs)

-- what stands nowhere is counted zero times
count_none : (silo : ℕ) (xs : List ℕ) → ((k : ℕ) → k < length xs → get_or xs k 0 ≢ silo) → count silo xs ≡ 0
count_none silo [] nowhere = refl
count_none silo (x ∷ xs) nowhere =
    count-cons_other silo x xs (nowhere 0 (omega arith)) ∙ count_none silo xs (λ k below. nowhere (suc k) (omega arith))

pub HasNoDoubles-rest : (x : ℕ) (xs : List ℕ) → HasNoDoubles (x ∷ xs) → HasNoDoubles xs
HasNoDoubles-rest x xs apart = λ i j d before below. apart (suc i) (suc j) d (omega arith) (omega arith)

-- without doubles each silo is counted once at most
pub count-le-one : (silo : ℕ) (xs : List ℕ) → HasNoDoubles xs → count silo xs ≤ 1
count-le-one silo [] apart = omega arith
count-le-one silo (x ∷ xs) apart =
    ⊎_elim
    (λ (same : x ≡ silo). let none : count silo xs ≡ 0 = count_none silo xs (λ k below there. apart 0 (suc k) 0 (omega arith) (omega arith) (same ∙ sym there)) in
    omega (arith, none, count-cons_same silo x xs same))
    (λ (other : x ≢ silo). omega (arith, count-cons_other silo x xs other, count-le-one silo xs (HasNoDoubles-rest x xs apart)))
    (cases_eq x silo)

-- a silo stands in one list only where it stands in the other
pub count-le-count : (silo : ℕ) (xs ys : List ℕ) → length xs ≡ length ys
    → ((k : ℕ) → k < length ys → get_or xs k 0 ≡ silo → get_or ys k 0 ≡ silo) → count silo xs ≤ count silo ys
count-le-count silo [] ys long only = omega arith
count-le-count silo (x ∷ xs) [] long only = absurd (omega (arith, long))
count-le-count silo (x ∷ xs) (y ∷ ys) long only =
    let rest : count silo xs ≤ count silo ys =
    count-le-count silo xs ys (omega (arith, long)) (λ k below. only (suc k) (omega arith)) in
    ⊎_elim
    (λ (same : x ≡ silo). omega (arith, rest, count-cons_same silo x xs same, count-cons_same silo y ys (only 0 (omega arith) same)))
    (λ (other : x ≢ silo). omega (arith, rest, count-cons_other silo x xs other, count-le-cons silo y ys))
    (cases_eq x silo)

-- and at one place in the other only
pub count-lt-count : (silo : ℕ) (xs ys : List ℕ) (at : ℕ) → length xs ≡ length ys
    → ((k : ℕ) → k < length ys → get_or xs k 0 ≡ silo → get_or ys k 0 ≡ silo)
    → at < length ys → get_or xs at 0 ≢ silo → get_or ys at 0 ≡ silo → count silo xs < count silo ys
count-lt-count silo xs [] at long only below missed there = absurd (omega arith)
count-lt-count silo [] (y ∷ ys) at long only below missed there = absurd (omega (arith, long))
count-lt-count silo (x ∷ xs) (y ∷ ys) zero long only below missed there =
    omega (
      arith,
      count-cons_other silo x xs missed,
      count-cons_same silo y ys there,
      count-le-count silo xs ys (omega (arith, long)) (λ k lt. only (suc k) (omega arith)),
    )
count-lt-count silo (x ∷ xs) (y ∷ ys) (suc at) long only below missed there =
    let rest : count silo xs < count silo ys =
    count-lt-count silo xs ys at (omega (arith, long)) (λ k lt. only (suc k) (omega arith)) (omega arith) missed there in
    ⊎_elim
    (λ (same : x ≡ silo). omega (arith, rest, count-cons_same silo x xs same, count-cons_same silo y ys (only 0 (omega arith) same)))
    (λ (other : x ≢ silo). omega (arith, rest, count-cons_other silo x xs other, count-le-cons silo y ys))
    (cases_eq x silo)
