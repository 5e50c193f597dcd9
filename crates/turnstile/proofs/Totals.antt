-- How often a number stands in a list, and the weights of the members added up.
use Rattle.turnstile.proofs.Prelude.{set_else, ◌≡◌, ◌≢◌, ℕ, zero, suc, ◌+◌, ◌<◌, ◌≤◌, eq-eqb, ne_eqb, Bool, if◌then◌else◌, List, [], ◌∷◌, ◌++◌, length, get_or, set, refl, sym, ap, ◌∙◌, subst, arith, get_elem?, dite, some, some-injective, some-ne-none, ℕ_discrete}
use Rattle.std.proofs.lemmas.List.Elements.{Contains-get_or}
use Rattle.std.specs.Prelude.{Contains, AllPairs}
use Rattle.turnstile.specs.History.{times, total}

pub times_same : (k x : ℕ) (xs : List ℕ) → x ≡ k → times k (x ∷ xs) ≡ 1 + times k xs
times_same k x xs e = ap (λ (b : Bool). (if b then 1 else 0) + times k xs) (eq-eqb x k e)

pub times_else : (k x : ℕ) (xs : List ℕ) → x ≢ k → times k (x ∷ xs) ≡ times k xs
times_else k x xs e = let h : times k (x ∷ xs) ≡ 0 + times k xs = ap (λ (b : Bool). (if b then 1 else 0) + times k xs) (ne_eqb x k e) in omega (arith, h)

pub times_one : (k x : ℕ) → times k (x ∷ []) ≤ 1
times_one k x = dite (ℕ_discrete x k) (λ e. omega (arith, times_same k x [] e)) (λ e. omega (arith, times_else k x [] e))

pub times-append : (k : ℕ) (xs ys : List ℕ) → times k (xs ++ ys) ≡ times k xs + times k ys
times-append k [] ys = omega arith
times-append k (x ∷ xs) ys = omega (arith, times-append k xs ys)

pub times_length : (k : ℕ) (xs : List ℕ) → times k xs ≤ length xs
times_length k [] = omega arith
times_length k (x ∷ xs) = omega (arith, times_one k x, times_length k xs)

-- a number at some place stands there once or more
times_at : (xs : List ℕ) (k i : ℕ) → i < length xs → get_or xs i k ≡ k → 0 < times k xs
times_at [] k i inside is = absurd (omega (arith, inside))
times_at (x ∷ xs) k zero inside is = omega (arith, times_same k x xs is)
times_at (x ∷ xs) k (suc i) inside is = omega (arith, times_at xs k i (omega (arith, inside)) is)

pub Contains-times : (xs : List ℕ) (k : ℕ) → 0 < times k xs → Contains xs k
Contains-times [] k there = absurd (omega (arith, there))
Contains-times (x ∷ xs) k there = dite (ℕ_discrete x k) (λ e. (0, omega arith, e))
    (λ e. let c = Contains-times xs k (omega (arith, times_else k x xs e, there)) in (suc c.0, omega (arith, c.1), c.2))

pub times_contained : (xs : List ℕ) (k : ℕ) → Contains xs k → 0 < times k xs
times_contained xs k c = times_at xs k c.0 c.1 c.2

pub absent-times : (xs : List ℕ) (k : ℕ) → times k xs ≡ 0 → ¬ Contains xs k
absent-times xs k none c = omega (arith, none, times_contained xs k c)

pub times_absent : (xs : List ℕ) (k : ℕ) → ¬ Contains xs k → times k xs ≡ 0
times_absent xs k not = dite (ℕ_discrete (times k xs) 0) (λ e. e) (λ ne. absurd (not (Contains-times xs k (omega (arith, ne)))))

-- where no number stands twice, no two are equal
pub AllPairs-times : (xs : List ℕ) → ((k : ℕ) → times k xs ≤ 1) → AllPairs (λ x y. x ≢ y) xs
AllPairs-times [] once i j d before inside = absurd (omega (arith, inside))
AllPairs-times (x ∷ xs) once i zero d before inside = absurd (omega (arith, before))
AllPairs-times (x ∷ xs) once zero (suc j) d before inside = λ e.
    omega (arith, times_contained xs x (subst (Contains xs) (sym e) (Contains-get_or xs j d (omega (arith, inside)))), times_same x x xs refl, once x)
AllPairs-times (x ∷ xs) once (suc i) (suc j) d before inside =
    AllPairs-times xs (λ k. omega (arith, once k)) i j d (omega (arith, before)) (omega (arith, inside))

module _ {V : Type 0} where
  pub total_set : (f : V → ℕ) (views : List V) (j : ℕ) (v w : V) → get_elem? views j ≡ some v → total f (set views j w) + f v ≡ total f views + f w
  total_set f [] j v w at = absurd (some-ne-none v (sym at))
  total_set f (x ∷ xs) zero v w at = omega (arith, ap f (some-injective x v at))
  total_set f (x ∷ xs) (suc j) v w at = omega (arith, total_set f xs j v w at)

  pub total_same : (f : V → ℕ) (views : List V) (j : ℕ) (v w : V) → get_elem? views j ≡ some v → f w ≡ f v → total f (set views j w) ≡ total f views
  total_same f views j v w at e = omega (arith, total_set f views j v w at, e)

  pub total_snoc : (f : V → ℕ) (views : List V) (w : V) → total f (views ++ w ∷ []) ≡ total f views + f w
  total_snoc f [] w = omega arith
  total_snoc f (x ∷ xs) w = omega (arith, total_snoc f xs w)

  pub total_at : (f : V → ℕ) (views : List V) (j : ℕ) (v : V) → get_elem? views j ≡ some v → f v ≤ total f views
  total_at f [] j v at = absurd (some-ne-none v (sym at))
  total_at f (x ∷ xs) zero v at = omega (arith, ap f (some-injective x v at))
  total_at f (x ∷ xs) (suc j) v at = omega (arith, total_at f xs j v at)

  -- two members weigh no more than all: the second stands there still once one that weighs nothing is in the first's place
  pub total_two : (f : V → ℕ) (views : List V) (i j : ℕ) (v w none : V) → f none ≡ 0 → i ≢ j → get_elem? views i ≡ some v → get_elem? views j ≡ some w → f v + f w ≤ total f views
  total_two f views i j v w none e other at bt =
      omega (arith, e, total_set f views i v none at, total_at f (set views i none) j w (set_else views i j none (λ h. other (sym h)) ∙ bt))

  pub total_below : (f g : V → ℕ) (views : List V) → ((j : ℕ) (v : V) → get_elem? views j ≡ some v → f v ≤ g v) → total f views ≤ total g views
  total_below f g [] each = omega arith
  total_below f g (x ∷ xs) each = omega (arith, each zero x refl, total_below f g xs (λ j v at. each (suc j) v at))

  pub set_at : (views : List V) (j : ℕ) (v w : V) → get_elem? views j ≡ some v → get_elem? (set views j w) j ≡ some w
  set_at [] j v w at = absurd (some-ne-none v (sym at))
  set_at (x ∷ xs) zero v w at = refl
  set_at (x ∷ xs) (suc j) v w at = set_at xs j v w at
