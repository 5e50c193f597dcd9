-- The loops of silos: one of them takes a step, goes, or comes again.
use Rattle.std.proofs.Common.{◌≡◌, ℕ, zero, suc, ◌<◌, List, [], ◌∷◌, length, get_or, set, remove, Some, refl, sym, ap, subst, ◌∙◌, arith}
use Rattle.std.proofs.lemmas.List.FromFn.{get_or-range_with_len, length-range_with_len}
use Rattle.std.proofs.lemmas.Option.{get_or_from_slice_get, slice_get_within}
use Rattle.std.specs.List.{AllByRecursion, insert, range_with_len, slice_get}
use Rattle.std.specs.Option.{unwrap_or}
use Rattle.queue_balancer.specs.Balance.{HasNoDoubles}
use Rattle.silo_loops.specs.Silos.{SiloView}
use Rattle.stream_cluster_tests.specs.Parked.{silos_of}

-- what stands once stands at one place
pub one-place : (xs : List ℕ) (i j x : ℕ) → HasNoDoubles xs → slice_get xs i ≡ Some x → slice_get xs j ≡ Some x → i ≡ j
one-place [] i j x once a b = absurd (cc (a))
one-place (y ∷ ys) zero zero x once a b = refl
one-place (y ∷ ys) zero (suc j) x once a b =
    let within = slice_get_within ys j x b in
    absurd (once 0 (suc j) x (omega arith) (omega (arith, within)) (ap (λ o. unwrap_or o x) a ∙ sym (get_or_from_slice_get ys j x x b)))
one-place (y ∷ ys) (suc i) zero x once a b =
    let within = slice_get_within ys i x a in
    absurd (once 0 (suc i) x (omega arith) (omega (arith, within)) (ap (λ o. unwrap_or o x) b ∙ sym (get_or_from_slice_get ys i x x a)))
one-place (y ∷ ys) (suc i) (suc j) x once a b =
    ap (λ k. suc k) (one-place ys i j x (λ k l d before within. once (suc k) (suc l) d (omega arith) (omega arith)) a b)

-- numbers in a row
pub range-once : (a n : ℕ) → HasNoDoubles (range_with_len a n)
range-once a n k l d before within same =
    let there : l < n = subst (λ m. l < m) (length-range_with_len a n) within in
    let here : k < n = omega (arith, before, there) in
    omega (arith, get_or-range_with_len a n k d here, get_or-range_with_len a n l d there, same, before)

module _ {A : Type 0} where
  pub all-set : (P : A → Type 0) (xs : List A) (at : ℕ) (x : A) → AllByRecursion P xs → P x → AllByRecursion P (set xs at x)
  all-set P [] at x all holds = all
  all-set P (y ∷ ys) zero x all holds = (holds, all.1)
  all-set P (y ∷ ys) (suc at) x all holds = (all.0, all-set P ys at x all.1 holds)

  -- what was taken out comes again
  pub insert-remove : (xs : List A) (at : ℕ) (x : A) → at < length xs → x ≡ get_or xs at x → insert (remove xs at) at x ≡ xs
  insert-remove [] at x within is = absurd (omega arith)
  insert-remove (y ∷ ys) zero x within is = ap (λ z. z ∷ ys) is
  insert-remove (y ∷ ys) (suc at) x within is = ap (λ zs. y ∷ zs) (insert-remove ys at x (omega arith) is)

  -- something else comes to its place
  pub insert-removed : (xs : List A) (at : ℕ) (x : A) → at < length xs → insert (remove xs at) at x ≡ set xs at x
  insert-removed [] at x within = absurd (omega arith)
  insert-removed (y ∷ ys) zero x within = refl
  insert-removed (y ∷ ys) (suc at) x within = ap (λ zs. y ∷ zs) (insert-removed ys at x (omega arith))

-- a step leaves the silo
pub silos-set : (crew : List SiloView) (at : ℕ) (s t : SiloView) → at < length crew → s ≡ get_or crew at s → t.silo ≡ s.silo → silos_of (set crew at t) ≡ silos_of crew
silos-set [] at s t within is same = refl
silos-set (x ∷ xs) zero s t within is same = ap (λ k. k ∷ silos_of xs) (same ∙ ap (λ (y : SiloView). y.silo) is)
silos-set (x ∷ xs) (suc at) s t within is same = ap (λ ks. x.silo ∷ ks) (silos-set xs at s t (omega arith) is same)
