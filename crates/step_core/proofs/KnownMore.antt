-- What grains know where records are closed.
use Rattle.step_core.proofs.Prelude.{PlainActivation, forgotten, runs, without_number, Delivery, SubState, activation_at, closed_registration, Registration, ◌≡◌, ◌≢◌, ◌∙◌, ap, sym, subst, refl, ℕ, zero, suc, ◌<◌, Bool, true, false, ◌||◌, not, List, [], ◌∷◌, length, filter, get_or, inl, eqb-true, false≢true, ne_eqb, or_from, or_parts, list_any, if◌then◌else◌, same_grain, same_sub, change_at, changed_value, GrainId, SubName, is_in, no_entry, no_state, ◌==◌}
use Rattle.grain_table.specs.Changes.{grain_at}
use Rattle.step_core.specs.Known.{AreKnown, IsOf}
use Rattle.step_core.proofs.KnownOps.{becomes-changed, known-becomes}

-- ---- records closed

-- names that stand for the same grains
pub known-names : (names others : List (SubName × Registration)) (states : List SubState) (grains : List (GrainId × PlainActivation)) → AreKnown names states grains → length others ≡ length names
    → ((n : ℕ) → (get_or others n no_entry).1.grain ≡ (get_or names n no_entry).1.grain) → AreKnown others states grains
known-names names others states grains known long same = record {
  within = λ k n within is. subst (λ m. n < m) (sym long) (known.within k n within is);
  theirs = λ k n within is. forth k n (known.theirs k n within is);
  untouched = λ n within is_open unknown.
      let was = known.untouched n (subst (λ m. n < m) long within) is_open (λ k in_k of_k. unknown k in_k (forth k n of_k)) in
      record { at_resume = was.at_resume; unhandled = was.unhandled; unheld = λ k in_k of_k. was.unheld k in_k (back k n of_k) };
}
  where
    forth : (k n : ℕ) → IsOf names grains n k → IsOf others grains n k
    forth k n is = subst (λ (g : GrainId). same_grain g (grain_at grains k) ≡ true) (sym (same n)) is

    back : (k n : ℕ) → IsOf others grains n k → IsOf names grains n k
    back k n is = subst (λ (g : GrainId). same_grain g (grain_at grains k) ≡ true) (same n) is

pub closed-grain : (s : SubName) (names : List (SubName × Registration)) (n : ℕ) → (get_or (changed_value same_sub s closed_registration names) n no_entry).1.grain ≡ (get_or names n no_entry).1.grain
closed-grain s [] n = refl
closed-grain s (entry ∷ names) n = by (same_sub s entry.0) n (closed-grain s names)
  where
    by : (b : Bool) (n : ℕ) → ((n : ℕ) → (get_or (changed_value same_sub s closed_registration names) n no_entry).1.grain ≡ (get_or names n no_entry).1.grain)
        → (get_or (if b then (entry.0, closed_registration entry.1) ∷ names else entry ∷ changed_value same_sub s closed_registration names) n no_entry).1.grain ≡ (get_or (entry ∷ names) n no_entry).1.grain
    by true zero rest = refl
    by true (suc n) rest = refl
    by false zero rest = refl
    by false (suc n) rest = rest n

without-number-other : (i n : ℕ) (ms : List ℕ) → n ≢ i → is_in (without_number i ms) n ≡ is_in ms n
without-number-other i n [] other = refl
without-number-other i n (m ∷ ms) other = by (i == m) refl (without-number-other i n ms other)
  where
    by : (b : Bool) → (i == m) ≡ b → is_in (without_number i ms) n ≡ is_in ms n → is_in (if not b then m ∷ without_number i ms else without_number i ms) n ≡ ((m == n) || is_in ms n)
    by true is rest = rest ∙ sym (ap (λ b. b || is_in ms n) (ne_eqb m n (λ same. other (sym same ∙ sym (eqb-true i m is)))))
    by false is rest = ap (λ b. (m == n) || b) rest

any-filtered : {A : Type 0} (p q : A → Bool) (xs : List A) → list_any p xs ≡ false → list_any p (filter q xs) ≡ false
any-filtered p q [] none = refl
any-filtered p q (x ∷ xs) none = by (q x) (or_parts (p x) (list_any p xs) none) (any-filtered p q xs)
  where
    by : (b : Bool) → (p x ≡ false) × (list_any p xs ≡ false) → (list_any p xs ≡ false → list_any p (filter q xs) ≡ false) → list_any p (if b then x ∷ filter q xs else filter q xs) ≡ false
    by true parts rest = or_from (p x) (list_any p (filter q xs)) parts.0 (rest parts.1)
    by false parts rest = rest parts.1

-- a record that is closed is forgotten by its grain
pub known-forgotten : (names : List (SubName × Registration)) (states : List SubState) (grains : List (GrainId × PlainActivation)) (i j : ℕ) → AreKnown names states grains → (get_or states i no_state).live ≡ false → j < length grains
    → AreKnown names states (change_at (forgotten i) j grains)
known-forgotten names states grains i j known is_closed inside =
    known-becomes states i known (becomes-changed grains j (forgotten i) inside) (λ n is. inl (was n (is_in a.subs n) refl is)) (λ n other none. sym (without-number-other i n a.subs other) ∙ none)
    (λ n other none.
    let parts = or_parts (list_any (λ (e : Delivery). n == e.sub) a.mailbox) (runs n a.running) none in
    or_from _ _ (any-filtered (λ (e : Delivery). n == e.sub) (λ (e : Delivery). not (i == e.sub)) a.mailbox parts.0) parts.1)
    (λ n other. refl) (λ numbered is_open unknown. absurd (false≢true (sym is_closed ∙ is_open)))
  where
    a : PlainActivation
    a = activation_at grains j

    was : (n : ℕ) (b : Bool) → is_in a.subs n ≡ b → is_in (without_number i a.subs) n ≡ true → is_in a.subs n ≡ true
    was n true is still = is
    was n false none still = absurd (false≢true (sym (any-filtered (λ m. m == n) (λ m. not (i == m)) a.subs none) ∙ still))
