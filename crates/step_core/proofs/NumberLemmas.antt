-- Numbers of records stand for their names.
use Rattle.step_core.proofs.Prelude.{front_of, Delivery, Registration, ◌≡◌, ◌∙◌, ap, sym, subst, refl, ℕ, zero, suc, ◌<◌, Bool, true, false, ◌==◌, List, [], ◌∷◌, length, map, filter, eq-eqb, false≢true, ne_eqb, AllByRecursion, if◌then◌else◌, same_sub-refl, same_sub, SubName}
use Rattle.stream_model.specs.Turns as plain
use Rattle.step_core.specs.View.{name_at, delivery_of}
use Rattle.step_core.specs.Numbers.{AreDistinct}

-- names are the same where their numbers are
pub same-number : (names : List (SubName × Registration)) (i j : ℕ) → AreDistinct names → i < length names → j < length names → same_sub (name_at names i) (name_at names j) ≡ (i == j)
same-number names i j distinct within_i within_j = by (same_sub (name_at names i) (name_at names j)) refl
  where
    by : (b : Bool) → same_sub (name_at names i) (name_at names j) ≡ b → b ≡ (i == j)
    by true same = sym (eq-eqb i j (distinct i j within_i within_j same))
    by false other = sym (ne_eqb i j (λ same. false≢true (sym (differ (subst (λ n. same_sub (name_at names i) (name_at names n) ≡ false) (sym same) other)))))
      where
        differ : same_sub (name_at names i) (name_at names i) ≡ false → true ≡ false
        differ apart = sym (same_sub-refl (name_at names i)) ∙ apart

-- the deliveries of a record are those of its name
pub own-deliveries : (names : List (SubName × Registration)) (sub : ℕ) (deliveries : List Delivery) → AreDistinct names → sub < length names → AllByRecursion (λ (d : Delivery). d.sub < length names) deliveries → filter (λ d. same_sub (name_at names sub) d.sub) (map (delivery_of names) deliveries) ≡ map (delivery_of names) (filter (λ (d : Delivery). sub == d.sub) deliveries)
own-deliveries names sub [] distinct within all = refl
own-deliveries names sub (d ∷ deliveries) distinct within all =
    rw (same-number names sub d.sub distinct within all.0)
    (by (sub == d.sub) (own-deliveries names sub deliveries distinct within all.1))
  where
    Rest : Type 0
    Rest = filter (λ e. same_sub (name_at names sub) e.sub) (map (delivery_of names) deliveries) ≡ map (delivery_of names) (filter (λ (e : Delivery). sub == e.sub) deliveries)

    by : (b : Bool) → Rest → (if b then delivery_of names d ∷ filter (λ e. same_sub (name_at names sub) e.sub) (map (delivery_of names) deliveries) else filter (λ e. same_sub (name_at names sub) e.sub) (map (delivery_of names) deliveries)) ≡ map (delivery_of names) (if b then d ∷ filter (λ (e : Delivery). sub == e.sub) deliveries else filter (λ (e : Delivery). sub == e.sub) deliveries)
    by true rest = ap (λ ds. delivery_of names d ∷ ds) rest
    by false rest = rest

-- the front of the deliveries is that of their names
pub front-of-names : (names : List (SubName × Registration)) (n sub from : ℕ) (deliveries : List Delivery) → AreDistinct names → sub < length names → AllByRecursion (λ (d : Delivery). d.sub < length names) deliveries → plain.front_of n (name_at names sub) from (map (delivery_of names) deliveries) ≡ front_of n sub from deliveries
front-of-names names zero sub from deliveries distinct within all = refl
front-of-names names (suc n) sub from [] distinct within all = refl
front-of-names names (suc n) sub from (d ∷ deliveries) distinct within all =
    rw (same-number names sub d.sub distinct within all.0, front-of-names names n sub (suc d.position) deliveries distinct within all.1) refl
