-- Lists of which one element after another is replaced.
use Rattle.script_runs.proofs.Prelude.{zip-refl, ◌≡◌, ◌≢◌, ◌⊎◌, ℕ, zero, suc, inl, inr, List, [], ◌∷◌, Some, refl, ap, subst, arith, AllByRecursion, AllZip, slice_get, slice_set}

module _ {A : Type 0} where
  -- what stands at a place after one element was replaced
  pub set-at : (xs : List A) (k j : ℕ) (x y z : A) → slice_get xs k ≡ Some x → slice_get (slice_set xs k y) j ≡ Some z → ((j ≡ k) × (z ≡ y)) ⊎ ((j ≢ k) × (slice_get xs j ≡ Some z))
  set-at [] k j x y z had has = absurd (cc)
  set-at (w ∷ xs) zero zero x y z had has = let same : z ≡ y = cc in inl (refl, same)
  set-at (w ∷ xs) zero (suc j) x y z had has = inr ((λ same. omega arith), has)
  set-at (w ∷ xs) (suc k) zero x y z had has = inr ((λ same. omega arith), has)
  set-at (w ∷ xs) (suc k) (suc j) x y z had has =
      elim (set-at xs k j x y z had has) as (λ s. ((suc j ≡ suc k) × (z ≡ y)) ⊎ ((suc j ≢ suc k) × (slice_get xs j ≡ Some z))) [
        | inl here ↦ inl (ap suc here.0, here.1)
        | inr there ↦ inr ((λ same. there.0 (omega arith)), there.1)
      ]

module _ {A : Type 0} (R : A → A → Type 0) where
  pub zip-set : ((x : A) → R x x) → (xs : List A) (k : ℕ) (x y : A) → slice_get xs k ≡ Some x → R x y → AllZip R xs (slice_set xs k y)
  zip-set same [] k x y had holds = absurd (cc)
  zip-set same (z ∷ xs) zero x y had holds = let is : x ≡ z = cc in (subst (λ (e : A). R e y) is holds, zip-refl R same xs)
  zip-set same (z ∷ xs) (suc k) x y had holds = (same z, zip-set same xs k x y had holds)

-- what follows of each of the first list from the one beside it
pub all-from : {A B : Type 0} (R : A → B → Type 0) (P : A → Type 0) (xs : List A) (ys : List B) → AllZip R xs ys → ((k : ℕ) (x : A) (y : B) → slice_get xs k ≡ Some x → slice_get ys k ≡ Some y → R x y → P x) → AllByRecursion P xs
all-from R P [] ys all each = tt
all-from R P (x ∷ xs) [] all each = absurd all
all-from R P (x ∷ xs) (y ∷ ys) all each = (each 0 x y refl refl all.0, all-from R P xs ys all.1 (λ k z w had at holds. each (suc k) z w had at holds))
