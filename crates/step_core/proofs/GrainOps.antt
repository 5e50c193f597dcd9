-- One grain of the parts found by its identity, and changed; and what it holds of a record.
use Rattle.step_core.proofs.Prelude.{PlainActivation, holds, new_activation, runs, RunningTurn, Delivery, Registration, ◌≡◌, ◌∙◌, ap, sym, refl, ℕ, zero, suc, ◌<◌, Bool, true, false, ◌||◌, List, [], ◌∷◌, ◌++◌, length, map, filter, get_or, Option, Some, None, nat_lt, ◌==◌, arith, lt-ltb, length-map, map-append, list_any, AllByRecursion, option_map, if◌then◌else◌, unwrap_or, same_grain, change_at, first_at, place_of, value_at, GrainId, SubName, place_of-added, place_of-change, place_of-none, place_of-value, place_of-within, grain_at, new_grain, running_in, waiting_in, with_grain, Grain}
use Rattle.std.proofs.Math.ListN.{get_or-map}
use Rattle.step_core.specs.Numbers.{AreDistinct, IsBelow, TurnIsBelow}
use Rattle.step_core.specs.declared.parts.Parts.{Parts}
use Rattle.step_core.specs.PlainOf.{plain_of}
use Rattle.step_core.specs.View.{delivery_of, grain_of, grains_of, name_at, turn_of}
use Rattle.step_core.proofs.NumberLemmas.{own-deliveries, same-number}

-- a grain has the same place among the activations and among the plain grains
pub place_of_grain : (names : List (SubName × Registration)) (passes : GrainId → Bool) (n : ℕ) (grains : List (GrainId × PlainActivation)) → first_at (λ entry. passes entry.0) n (grains_of names grains) ≡ first_at (λ entry. passes entry.0) n grains
place_of_grain names passes n [] = refl
place_of_grain names passes n (entry ∷ entries) = rw (place_of_grain names passes (suc n) entries) refl

pub activation-at : (names : List (SubName × Registration)) (grains : List (GrainId × PlainActivation)) (i : ℕ) (d : GrainId × PlainActivation) → get_or (grains_of names grains) i (d.0, grain_of names d.1) ≡ ((get_or grains i d).0, grain_of names (get_or grains i d).1)
activation-at names grains i d = get_or-map (λ (entry : GrainId × PlainActivation). (entry.0, grain_of names entry.1)) grains i d

pub activation-changed : (names : List (SubName × Registration)) (change : PlainActivation → PlainActivation) (step : Grain → Grain) (i : ℕ) (grains : List (GrainId × PlainActivation)) (d : GrainId × PlainActivation) → i < length grains → grain_of names (change (get_or grains i d).1) ≡ step (grain_of names (get_or grains i d).1) → change_at step i (grains_of names grains) ≡ grains_of names (change_at change i grains)
activation-changed names change step i [] d within changed = absurd (omega (arith, within))
activation-changed names change step zero (entry ∷ entries) d within changed = ap (λ st. (entry.0, st) ∷ grains_of names entries) (sym changed)
activation-changed names change step (suc i) (entry ∷ entries) d within changed =
    ap (λ rest. (entry.0, grain_of names entry.1) ∷ rest) (activation-changed names change step i entries d (omega (arith, within)) changed)

abbrev pub activation_at : Parts → ℕ → GrainId × PlainActivation → PlainActivation
activation_at parts i d = (get_or parts.grains i d).1

placed : (parts : Parts) (g : GrainId) (i : ℕ) → place_of same_grain g parts.grains ≡ Some i → place_of same_grain g (grains_of parts.subs.registry.names parts.grains) ≡ Some i
placed parts g i found = place_of_grain parts.subs.registry.names (same_grain g) 0 parts.grains ∙ found

pub value-found : (parts : Parts) (g : GrainId) (i : ℕ) (d : GrainId × PlainActivation) → place_of same_grain g parts.grains ≡ Some i → value_at same_grain g (grains_of parts.subs.registry.names parts.grains) ≡ Some (grain_of parts.subs.registry.names (activation_at parts i d))
value-found parts g i d found =
    place_of-value same_grain g i (grains_of parts.subs.registry.names parts.grains) (d.0, grain_of parts.subs.registry.names d.1) (placed parts g i found)
    ∙ ap {B = Option Grain} (λ (entry : GrainId × Grain). Some entry.1) (activation-at parts.subs.registry.names parts.grains i d)

-- the grain with a number
pub grain-found : (parts : Parts) (g : GrainId) (i : ℕ) (d : GrainId × PlainActivation) → place_of same_grain g parts.grains ≡ Some i → grain_at (plain_of parts) g ≡ grain_of parts.subs.registry.names (activation_at parts i d)
grain-found parts g i d found = ap (λ o. unwrap_or o new_grain) (value-found parts g i d found)

-- one that was never active
pub grain-new : (parts : Parts) (g : GrainId) → place_of same_grain g parts.grains ≡ None → grain_at (plain_of parts) g ≡ grain_of parts.subs.registry.names new_activation
grain-new parts g none =
    ap (λ o. unwrap_or o new_grain) (place_of-none same_grain g (grains_of parts.subs.registry.names parts.grains) (place_of_grain parts.subs.registry.names (same_grain g) 0 parts.grains ∙ none))

-- its activation changed
pub grain-set : (parts : Parts) (g : GrainId) (i : ℕ) (d : GrainId × PlainActivation) (change : PlainActivation → PlainActivation) (step : Grain → Grain) → place_of same_grain g parts.grains ≡ Some i → grain_of parts.subs.registry.names (change (activation_at parts i d)) ≡ step (grain_of parts.subs.registry.names (activation_at parts i d)) → with_grain (plain_of parts) g (step (grain_of parts.subs.registry.names (activation_at parts i d))) ≡ plain_of (record parts { grains = change_at change i parts.grains })
grain-set parts g i d change step found changed =
    let within = place_of-within same_grain g i parts.grains found in
    let written = place_of-change same_grain g step (grain_of parts.subs.registry.names (activation_at parts i d)) i (grains_of parts.subs.registry.names parts.grains) (placed parts g i found) (value-found parts g i d found) in
    let moved = activation-changed parts.subs.registry.names change step i parts.grains d within changed in
    ap (λ grains. record (plain_of parts) { grains = grains }) (sym written ∙ moved)

-- a grain more
pub grain-added : (parts : Parts) (g : GrainId) (a : PlainActivation) → place_of same_grain g parts.grains ≡ None → with_grain (plain_of parts) g (grain_of parts.subs.registry.names a) ≡ plain_of (record parts { grains = parts.grains ++ (g, a) ∷ [] })
grain-added parts g a none =
    ap (λ grains. record (plain_of parts) { grains = grains })
    (place_of-added same_grain g (grain_of parts.subs.registry.names a) (grains_of parts.subs.registry.names parts.grains) (place_of_grain parts.subs.registry.names (same_grain g) 0 parts.grains ∙ none)
    ∙ sym (map-append (λ (entry : GrainId × PlainActivation). (entry.0, grain_of parts.subs.registry.names entry.1)) parts.grains ((g, a) ∷ [])))

-- ---- what a grain holds of a record

some-filtered : {A : Type 0} (test : A → Bool) (xs : List A) → nat_lt 0 (length (filter test xs)) ≡ list_any test xs
some-filtered test [] = refl
some-filtered test (x ∷ xs) = by (test x) (some-filtered test xs)
  where
    by : (b : Bool) → nat_lt 0 (length (filter test xs)) ≡ list_any test xs → nat_lt 0 (length (if b then x ∷ filter test xs else filter test xs)) ≡ (b || list_any test xs)
    by true rest = lt-ltb 0 (suc (length (filter test xs))) (omega arith)
    by false rest = rest

waiting-is : (names : List (SubName × Registration)) (sub : ℕ) (deliveries : List Delivery) → AreDistinct names → sub < length names → AllByRecursion (λ (d : Delivery). d.sub < length names) deliveries → nat_lt 0 (length (waiting_in (name_at names sub) (map (delivery_of names) deliveries))) ≡ list_any (λ (d : Delivery). sub == d.sub) deliveries
waiting-is names sub deliveries distinct within all =
    let own : List Delivery = filter (λ (d : Delivery). sub == d.sub) deliveries in
    ap (λ ds. nat_lt 0 (length (map (λ d. d.position) ds))) (own-deliveries names sub deliveries distinct within all)
    ∙ ap (nat_lt 0) (length-map (map (delivery_of names) own) (λ d. d.position) ∙ length-map own (delivery_of names))
    ∙ some-filtered (λ (d : Delivery). sub == d.sub) deliveries

abbrev pub AreSome : Option RunningTurn → Type 0
AreSome None = Unit {0}
AreSome (Some run) = 0 < length run.positions

running-is : (names : List (SubName × Registration)) (sub : ℕ) (running : Option RunningTurn) → AreDistinct names → sub < length names → TurnIsBelow (length names) running → AreSome running → nat_lt 0 (length (running_in (name_at names sub) (option_map (turn_of names) running))) ≡ runs sub running
running-is names sub None distinct within below some = refl
running-is names sub (Some run) distinct within below some =
    rw (same-number names sub run.sub distinct within below) (by (sub == run.sub) run.positions some)
  where
    by : (b : Bool) (positions : List ℕ) → 0 < length positions → nat_lt 0 (length (if b then positions else [])) ≡ b
    by false positions more = refl
    by true [] more = absurd (omega (arith, more))
    by true (position ∷ positions) more = lt-ltb 0 (suc (length positions)) (omega arith)

-- something of the record is on its way, or handled and not acknowledged
pub outstanding-is : (parts : Parts) (sub : ℕ) (a : PlainActivation) → AreDistinct parts.subs.registry.names → sub < length parts.subs.registry.names → IsBelow (length parts.subs.registry.names) a → AreSome a.running
    → (nat_lt 0 (length (waiting_in (name_at parts.subs.registry.names sub) (grain_of parts.subs.registry.names a).mailbox)) || nat_lt 0 (length (running_in (name_at parts.subs.registry.names sub) (grain_of parts.subs.registry.names a).running))) ≡ holds sub a
outstanding-is parts sub a distinct within below some =
    rw (waiting-is parts.subs.registry.names sub a.mailbox distinct within below.waiting, running-is parts.subs.registry.names sub a.running distinct within below.running some) refl
