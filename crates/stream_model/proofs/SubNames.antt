-- The names of subscriptions: a new one is not yet in the list.
use Rattle.stream_model.proofs.Prelude.{◌≡◌, ap, refl, ℕ, suc, false, List, [], ◌∷◌, ◌++◌, length, Some, arith, cond_both, ne_eqb, AllByRecursion, All-weaken, same_sub, value_at, with_value, SubName, Explicit, Implicit}
use Rattle.stream_model.specs.declared.plain.Subscription.{Subscription}
use Rattle.stream_model.specs.Bounds.{IsGiven}

-- the names of the list were given out
abbrev pub AreGiven : ℕ → List (SubName × Subscription) → Type 0
AreGiven explicit subs = AllByRecursion (λ entry. IsGiven explicit entry.0) subs

-- the next number is not given out yet
next-not-given : (explicit : ℕ) (s : SubName) → IsGiven explicit s → same_sub (Explicit (suc explicit)) s ≡ false
next-not-given explicit (Explicit number) given = ne_eqb (suc explicit) number (λ same. omega arith)
next-not-given explicit (Implicit kind stream) given = refl

-- so its subscription goes to the end
pub with_value-new : (explicit : ℕ) (sub : Subscription) (subs : List (SubName × Subscription)) → AreGiven explicit subs → with_value same_sub (Explicit (suc explicit)) sub subs ≡ subs ++ (Explicit (suc explicit), sub) ∷ []
with_value-new explicit sub [] given = refl
with_value-new explicit sub (entry ∷ subs) given =
    let apart = next-not-given explicit entry.0 given.0 in
    rw apart (ap (λ rest. entry ∷ rest) (with_value-new explicit sub subs given.1))

-- a name that was given out stays so
given-more : (explicit : ℕ) (s : SubName) → IsGiven explicit s → IsGiven (suc explicit) s
given-more explicit (Explicit number) given = omega arith
given-more explicit (Implicit kind stream) given = tt

pub AreGiven-more : (explicit : ℕ) (subs : List (SubName × Subscription)) → AreGiven explicit subs → AreGiven (suc explicit) subs
AreGiven-more explicit subs given = All-weaken _ _ (λ (entry : SubName × Subscription). given-more explicit entry.0) subs given

-- with another value at a name that is there the list is as long as before
pub length-with_value : (s : SubName) (found sub : Subscription) (subs : List (SubName × Subscription)) → value_at same_sub s subs ≡ Some found → length (with_value same_sub s sub subs) ≡ length subs
length-with_value s found sub [] there = absurd (cc)
length-with_value s found sub (entry ∷ subs) there =
    cond_both (same_sub s entry.0) _ _ (λ now. length now ≡ suc (length subs)) (λ _. refl)
    (λ apart. ap suc (length-with_value s found sub subs (rw apart at there)))
