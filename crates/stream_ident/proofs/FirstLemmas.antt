-- The first element that passes, by its place.
use Rattle.stream_ident.proofs.Prelude.{◌≡◌, ◌∙◌, ◌+◌, ◌<◌, ◌∷◌, ap, subst, refl, ℕ, zero, suc, Bool, true, false, List, [], length, get_or, arith, nat_tests, position_or_len, if◌then◌else◌, nat_lt, position}
use Rattle.std.proofs.Common.{Option, Some, None}
use Rattle.std.specs.Map.{keys_of}
use Rattle.stream_ident.specs.Words.{first_at, place_of}
use Rattle.stream_ident.proofs.WordLemmas.{cond_none}

-- the place of the first element that passes
pub first_at-there : {A : Type 0} (passes : A → Bool) (n : ℕ) (xs : List A) (d : A) (i : ℕ) → i < length xs → passes (get_or xs i d) ≡ true → ((j : ℕ) → j < i → passes (get_or xs j d) ≡ false) → first_at passes n xs ≡ Some (n + i)
first_at-there passes n [] d i within is before = absurd (omega arith)
first_at-there passes n (x ∷ xs) d zero within is before = let same : n ≡ n + 0 = omega arith in rw is (ap {B = Option ℕ} Some same)
first_at-there passes n (x ∷ xs) d (suc i) within is before =
    let here : passes x ≡ false = before 0 (omega arith) in
    let same : suc n + i ≡ n + suc i = omega arith in
    rw here (first_at-there passes (suc n) xs d i (omega arith) is (λ j less. before (suc j) (omega arith)) ∙ ap {B = Option ℕ} Some same)

-- where no element passes, there is none
pub first_at-nowhere : {A : Type 0} (passes : A → Bool) (n : ℕ) (xs : List A) (d : A) → ((j : ℕ) → j < length xs → passes (get_or xs j d) ≡ false) → first_at passes n xs ≡ None
first_at-nowhere passes n [] d none = refl
first_at-nowhere passes n (x ∷ xs) d none =
    let here : passes x ≡ false = none 0 (omega arith) in
    rw here (first_at-nowhere passes (suc n) xs d (λ j less. none (suc j) (omega arith)))

-- an element is found at its place, passes, and none before it does
pub record IsFirst {A : Type 0} (passes : A → Bool) (n : ℕ) (xs : List A) (d : A) (found : ℕ) : Type 0 where
  pub place : ℕ
  pub at : found ≡ n + place
  pub within : place < length xs
  pub is : passes (get_or xs place d) ≡ true
  pub before : (j : ℕ) → j < place → passes (get_or xs j d) ≡ false

-- the one that is found is the first that passes
pub first_at-Some : {A : Type 0} (passes : A → Bool) (n : ℕ) (xs : List A) (d : A) (found : ℕ) → first_at passes n xs ≡ Some found → IsFirst passes n xs d found
first_at-Some passes n [] d found e = absurd (cc)
first_at-Some {A} passes n (x ∷ xs) d found e = by (passes x) refl e (λ later. first_at-Some passes (suc n) xs d found later)
  where
    past : passes x ≡ false → (rest : IsFirst passes (suc n) xs d found) → (j : ℕ) → j < suc rest.place → passes (get_or (x ∷ xs) j d) ≡ false
    past is rest zero less = is
    past is rest (suc j) less = rest.before j (omega arith)

    by : (b : Bool) → passes x ≡ b → (if b then Some n else first_at passes (suc n) xs) ≡ Some found → (first_at passes (suc n) xs ≡ Some found → IsFirst passes (suc n) xs d found) → IsFirst passes n (x ∷ xs) d found
    by true is e rest =
        let same : n ≡ found = cc in
        record { place = 0; at = omega arith; within = omega arith; is = is; before = λ j less. absurd (omega arith) }
    by false is e rest =
        let first = rest e in
        record { place = suc first.place; at = omega (arith, first.at); within = omega (arith, first.within); is = first.is; before = past is first }

-- where none is found, no element passes
pub first_at-None : {A : Type 0} (passes : A → Bool) (n : ℕ) (xs : List A) (d : A) → first_at passes n xs ≡ None → (j : ℕ) → j < length xs → passes (get_or xs j d) ≡ false
first_at-None passes n [] d e j within = absurd (omega arith)
first_at-None passes n (x ∷ xs) d e zero within = (cond_none _ _ _ e).0
first_at-None passes n (x ∷ xs) d e (suc j) within = first_at-None passes (suc n) xs d (cond_none _ _ _ e).1 j (omega arith)

-- the entry at the place of a key has the key
pub place_of-key : {K V : Type 0} (same : K → K → Bool) (key : K) (entries : List (K × V)) (d : K × V) (i : ℕ) → place_of same key entries ≡ Some i → same key (get_or entries i d).0 ≡ true
place_of-key {K} {V} same key entries d i found =
    let first = first_at-Some (λ (entry : K × V). same key entry.0) 0 entries d i found in
    let place : first.place ≡ i = omega (arith, first.at) in
    subst (λ (n : ℕ). same key (get_or entries n d).0 ≡ true) place first.is

-- the first place of a key that passes, among the keys of entries that begin at a number
keys_from : {K V : Type 0} (passes : K → Bool) (n : ℕ) (entries : List (K × V)) → (if nat_lt (position_or_len passes (keys_of entries)) (length (keys_of entries)) then Some (n + position_or_len passes (keys_of entries)) else None) ≡ first_at (λ (entry : K × V). passes entry.0) n entries
keys_from passes n [] = refl
keys_from passes n (entry ∷ entries) = let rest = keys_from passes (suc n) entries in grind (arith, nat_tests, rest)

-- the place of a key among the keys is that of its entry among the entries
pub position-key : {K V : Type 0} (passes : K → Bool) (entries : List (K × V)) → position passes (keys_of entries) ≡ first_at (λ (entry : K × V). passes entry.0) 0 entries
position-key passes entries =
    let place = position_or_len passes (keys_of entries) in
    let zero-more : place ≡ 0 + place = omega arith in
    ap (λ n. if nat_lt place (length (keys_of entries)) then Some n else None) zero-more ∙ keys_from passes 0 entries
