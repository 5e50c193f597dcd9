-- Sums over the open subscriptions, and how many deliveries wait.
use Rattle.stream_laws.proofs.Prelude.{◌≡◌, ℕ, suc, ◌+◌, true, false, List, [], ◌∷◌, ◌++◌, length, fold, Option, Some, None, is_some, if◌then◌else◌, refl, sym, ap, ap₂, subst, arith, ◌∙◌, cond_both, AllByRecursion, flat_map, sub_equality, same_sub-equal, or_else-parts, added, same_grain, same_sub, value_at, with_value, GrainId, SubName, append-at, Grain, Subscription}
use Rattle.std.proofs.Common.{length-append}
use Rattle.stream_laws.specs.DrainLaws.{sum_open}
use Rattle.stream_laws.proofs.Unique.{AreUnique, same-swap}

-- one term
abbrev term : (SubName → ℕ) → SubName × Subscription → ℕ
term f entry = if entry.1.is_open then f entry.0 else 0

-- equal terms have equal sums
pub sum_open-same : (f g : SubName → ℕ) (subs : List (SubName × Subscription)) → AllByRecursion (λ (entry : SubName × Subscription). entry.1.is_open ≡ true → f entry.0 ≡ g entry.0) subs → sum_open f subs ≡ sum_open g subs
sum_open-same f g [] all = refl
sum_open-same f g (entry ∷ subs) all =
    ap₂ (λ a b. a + b)
    ((elim entry.1.is_open as (λ b. (b ≡ true → f entry.0 ≡ g entry.0) → (if b then f entry.0 else 0) ≡ (if b then g entry.0 else 0)) [
      | true ↦ λ same. same refl
      | false ↦ λ same. refl
    ]) all.0)
    (sum_open-same f g subs all.1)

pub sum_open-zero : (f : SubName → ℕ) (subs : List (SubName × Subscription)) → ((s : SubName) → f s ≡ 0) → sum_open f subs ≡ 0
sum_open-zero f [] none = refl
sum_open-zero f (entry ∷ subs) none =
    ap₂ (λ a b. a + b) (cond_both entry.1.is_open (f entry.0) 0 (λ n. n ≡ 0) (λ _. none entry.0) (λ _. refl)) (sum_open-zero f subs none)

-- a record set that is open where the old one was
pub sum_open-set : (f : SubName → ℕ) (s : SubName) (was r : Subscription) (subs : List (SubName × Subscription)) → value_at same_sub s subs ≡ Some was → r.is_open ≡ was.is_open → sum_open f (with_value same_sub s r subs) ≡ sum_open f subs
sum_open-set f s was r [] found same = absurd (cc)
sum_open-set f s was r (entry ∷ subs) found same =
    (elim (same_sub s entry.0) as (λ b. (if b then Some entry.1 else value_at same_sub s subs) ≡ Some was → sum_open f (if b then (entry.0, r) ∷ subs else entry ∷ with_value same_sub s r subs) ≡ term f entry + sum_open f subs) [
      | true ↦ λ found.
          let value : entry.1 ≡ was = cc in
          ap (λ b. (if b then f entry.0 else 0) + sum_open f subs) (same ∙ ap (λ (r : Subscription). r.is_open) (sym value))
      | false ↦ λ found. ap (λ n. term f entry + n) (sum_open-set f s was r subs found same)
    ]) found

-- a name that isn't there counts nothing
sum_open-away : (f g : SubName → ℕ) (s : SubName) (subs : List (SubName × Subscription)) → value_at same_sub s subs ≡ None → ((q : SubName) → same_sub q s ≡ false → g q ≡ f q) → sum_open g subs ≡ sum_open f subs
sum_open-away f g s [] gone others = refl
sum_open-away f g s (entry ∷ subs) gone others =
    (elim (same_sub s entry.0) as (λ b. same_sub s entry.0 ≡ b → (if b then Some entry.1 else value_at same_sub s subs) ≡ None → sum_open g (entry ∷ subs) ≡ sum_open f (entry ∷ subs)) [
      | true ↦ λ here gone. absurd (cc)
      | false ↦ λ there gone.
          ap₂ (λ a b. (if entry.1.is_open then a else 0) + b) (others entry.0 (same-swap same_sub sub_equality s entry.0 there)) (sum_open-away f g s subs gone others)
    ]) refl gone

-- one open subscription counts one more
pub sum_open-more : (f g : SubName → ℕ) (s : SubName) (was r : Subscription) (subs : List (SubName × Subscription)) → AreUnique same_sub subs → value_at same_sub s subs ≡ Some was → was.is_open ≡ true → r.is_open ≡ true → g s ≡ suc (f s) → ((q : SubName) → same_sub q s ≡ false → g q ≡ f q) → sum_open g (with_value same_sub s r subs) ≡ suc (sum_open f subs)
sum_open-more f g s was r [] unique found was_open is_open more others = absurd (cc)
sum_open-more f g s was r (entry ∷ subs) unique found was_open is_open more others =
    (elim (same_sub s entry.0) as (λ b. same_sub s entry.0 ≡ b → (if b then Some entry.1 else value_at same_sub s subs) ≡ Some was → sum_open g (if b then (entry.0, r) ∷ subs else entry ∷ with_value same_sub s r subs) ≡ suc (term f entry + sum_open f subs)) [
      | true ↦ λ here found.
          let value : entry.1 ≡ was = cc in
          let name : s ≡ entry.0 = same_sub-equal s entry.0 here in
          let first : (if r.is_open then g entry.0 else 0) ≡ suc (f entry.0) = rw is_open (subst (λ q. g q ≡ suc (f q)) name more) in
          let old : term f entry ≡ f entry.0 = ap (λ b. if b then f entry.0 else 0) (ap (λ (r : Subscription). r.is_open) value ∙ was_open) in
          let rest : sum_open g subs ≡ sum_open f subs = sum_open-away f g s subs (subst (λ q. value_at same_sub q subs ≡ None) (sym name) unique.0) others in
          omega (arith, first, old, rest)
      | false ↦ λ there found.
          let first : term g entry ≡ term f entry = ap (λ n. if entry.1.is_open then n else 0) (others entry.0 (same-swap same_sub sub_equality s entry.0 there)) in
          let rest = sum_open-more f g s was r subs unique.1 found was_open is_open more others in
          omega (arith, first, rest)
    ]) refl found

sum_open-append : (f : SubName → ℕ) (subs more : List (SubName × Subscription)) → sum_open f (subs ++ more) ≡ sum_open f subs + sum_open f more
sum_open-append f [] more = omega arith
sum_open-append f (entry ∷ subs) more = omega (arith, sum_open-append f subs more)

-- new names count nothing
pub sum_open-added : (f : SubName → ℕ) (subs entries : List (SubName × Subscription)) → ((s : SubName) → value_at same_sub s subs ≡ None → f s ≡ 0) → sum_open f (fold added subs entries) ≡ sum_open f subs
sum_open-added f subs [] none = refl
sum_open-added f subs (entry ∷ entries) none =
    (elim (value_at same_sub entry.0 subs) as (λ (o : Option Subscription). value_at same_sub entry.0 subs ≡ o → sum_open f (fold added (if is_some o then subs else subs ++ entry ∷ []) entries) ≡ sum_open f subs) [
      | Some r ↦ λ there. sum_open-added f subs entries none
      | None ↦ λ new.
          let nothing : term f entry ≡ 0 = cond_both entry.1.is_open (f entry.0) 0 (λ n. n ≡ 0) (λ _. none entry.0 new) (λ _. refl) in
          let rest = sum_open-added f (subs ++ entry ∷ []) entries (λ s gone. none s (or_else-parts (value_at same_sub s subs) (value_at same_sub s (entry ∷ [])) (sym (append-at same_sub s subs (entry ∷ [])) ∙ gone)).0) in
          omega (arith, rest, sum_open-append f subs (entry ∷ []), nothing)
    ]) refl

-- how many deliveries wait where a grain was set
pub waiting-set : (g : GrainId) (was st : Grain) (grains : List (GrainId × Grain)) → value_at same_grain g grains ≡ Some was
    → length (flat_map (λ (entry : GrainId × Grain). entry.1.mailbox) (with_value same_grain g st grains)) + length was.mailbox ≡ length (flat_map (λ (entry : GrainId × Grain). entry.1.mailbox) grains) + length st.mailbox
waiting-set g was st [] found = absurd (cc)
waiting-set g was st (entry ∷ grains) found =
    (elim (same_grain g entry.0) as (λ b. (if b then Some entry.1 else value_at same_grain g grains) ≡ Some was
    → length (flat_map (λ (entry : GrainId × Grain). entry.1.mailbox) (if b then (entry.0, st) ∷ grains else entry ∷ with_value same_grain g st grains)) + length was.mailbox ≡ length (entry.1.mailbox ++ flat_map (λ (entry : GrainId × Grain). entry.1.mailbox) grains) + length st.mailbox) [
      | true ↦ λ found.
          let value : length entry.1.mailbox ≡ length was.mailbox = ap (λ (st : Grain). length st.mailbox) (let same : entry.1 ≡ was = cc in same) in
          let rest = flat_map (λ (entry : GrainId × Grain). entry.1.mailbox) grains in
          omega (arith, value, length-append st.mailbox rest, length-append entry.1.mailbox rest)
      | false ↦ λ found.
          let rest = flat_map (λ (entry : GrainId × Grain). entry.1.mailbox) grains in
          let after = flat_map (λ (entry : GrainId × Grain). entry.1.mailbox) (with_value same_grain g st grains) in
          omega (arith, waiting-set g was st grains found, length-append entry.1.mailbox rest, length-append entry.1.mailbox after)
    ]) found
