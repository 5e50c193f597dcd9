-- What holds of each two at one place, and of each in a list.
use Rattle.silo_operators.proofs.Prelude.{rules, ◌≡◌, ℕ, zero, suc, List, [], ◌∷◌, Some, refl, subst, AllByRecursion, AllZip, slice_get}

module _ {A : Type 0} (R : A → A → Type 0) where
  pub zip-refl : ((x : A) → R x x) → (xs : List A) → AllZip R xs xs
  zip-refl same [] = tt
  zip-refl same (x ∷ xs) = (same x, zip-refl same xs)

module _ {A B C : Type 0} (R : A → B → Type 0) (S : B → C → Type 0) (T : A → C → Type 0) where
  pub zip-trans : ((x : A) (y : B) (z : C) → R x y → S y z → T x z) → (xs : List A) (ys : List B) (zs : List C) → AllZip R xs ys → AllZip S ys zs → AllZip T xs zs
  zip-trans on [] [] [] a b = tt
  zip-trans on (x ∷ xs) (y ∷ ys) (z ∷ zs) a b = (on x y z a.0 b.0, zip-trans on xs ys zs a.1 b.1)
  zip-trans on _ _ _ a b = absurd (search rules)

module _ {A B : Type 0} (R : A → B → Type 0) where
  -- the one of the first list beside one of the second
  pub zip-at : (xs : List A) (ys : List B) (k : ℕ) (y : B) → AllZip R xs ys → slice_get ys k ≡ Some y → (x : A) × (slice_get xs k ≡ Some x) × R x y
  zip-at [] [] k y all had = absurd (cc)
  zip-at (x ∷ xs) (z ∷ ys) zero y all had = let same : z ≡ y = cc in (x, refl, subst (λ (e : B). R x e) same all.0)
  zip-at (x ∷ xs) (z ∷ ys) (suc k) y all had = zip-at xs ys k y all.1 had
  zip-at _ _ k y all had = absurd all

  -- those of both lists at one place
  pub zip-both : (xs : List A) (ys : List B) (k : ℕ) (x : A) (y : B) → AllZip R xs ys → slice_get xs k ≡ Some x → slice_get ys k ≡ Some y → R x y
  zip-both xs ys k x y all had has =
      let at = zip-at xs ys k y all has in
      let same : at.0 ≡ x = cc (at.1) in
      subst (λ (e : A). R e y) same at.2

module _ {A : Type 0} (P : A → Type 0) where
  pub all-at : (xs : List A) (k : ℕ) (x : A) → AllByRecursion P xs → slice_get xs k ≡ Some x → P x
  all-at [] k x all had = absurd (cc)
  all-at (z ∷ xs) zero x all had = let same : z ≡ x = cc in subst (λ (e : A). P e) same all.0
  all-at (z ∷ xs) (suc k) x all had = all-at xs k x all.1 had

module _ {A B : Type 0} (R T : A → B → Type 0) where
  pub zip-weaker : ((x : A) (y : B) → R x y → T x y) → (xs : List A) (ys : List B) → AllZip R xs ys → AllZip T xs ys
  zip-weaker weak [] [] all = tt
  zip-weaker weak (x ∷ xs) (y ∷ ys) all = (weak x y all.0, zip-weaker weak xs ys all.1)
  zip-weaker weak _ _ all = absurd all
