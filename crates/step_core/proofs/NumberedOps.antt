-- What grains know is kept where one of them changes.
use Rattle.step_core.proofs.Prelude.{activation_at, no_grain, PlainGrains, number_of, ◌≡◌, ap, refl, ℕ, zero, suc, ◌<◌, List, [], ◌∷◌, length, map, get_or, Some, AllByRecursion, All-at, same_grain, change_at, GrainId, place_of-within}
use Rattle.step_core.specs.Assembly.{Agrees, IsAssembled}
use Rattle.step_core.specs.Known.{AreKnown}
use Rattle.step_core.specs.Numbers.{IsBelow}
use Rattle.step_core.specs.declared.parts.Parts.{Parts}

-- and of each after a change that keeps it
pub All-change_at : {K V : Type 0} (P : V → Type 0) (change : V → V) (i : ℕ) (entries : List (K × V)) → ((v : V) → P v → P (change v)) → AllByRecursion (λ (entry : K × V). P entry.1) entries → AllByRecursion (λ (entry : K × V). P entry.1) (change_at change i entries)
All-change_at P change i [] keeps all = tt
All-change_at P change zero (entry ∷ entries) keeps all = (keeps entry.1 all.0, all.1)
All-change_at P change (suc i) (entry ∷ entries) keeps all = (all.0, All-change_at P change i entries keeps all.1)

-- a fact of what is made of each element
pub All-unmap : {A B : Type 0} (P : B → Type 0) (f : A → B) (xs : List A) → AllByRecursion P (map f xs) → AllByRecursion (λ x. P (f x)) xs
All-unmap P f [] all = tt
All-unmap P f (x ∷ xs) all = (all.0, All-unmap P f xs all.1)

-- only the value at the number counts, and one that stays changes nothing
pub change_at-by : {K V : Type 0} (change : V → V) (i : ℕ) (entries : List (K × V)) (d : K × V) → change_at change i entries ≡ change_at (λ _. change (get_or entries i d).1) i entries
change_at-by change i [] d = refl
change_at-by change zero (entry ∷ entries) d = refl
change_at-by change (suc i) (entry ∷ entries) d = ap (λ rest. entry ∷ rest) (change_at-by change i entries d)

pub change_at-kept : {K V : Type 0} (i : ℕ) (entries : List (K × V)) (d : K × V) → change_at (λ _. (get_or entries i d).1) i entries ≡ entries
change_at-kept i [] d = refl
change_at-kept zero (entry ∷ entries) d = refl
change_at-kept (suc i) (entry ∷ entries) d = ap (λ rest. entry ∷ rest) (change_at-kept i entries d)

-- the grain with a number knows only numbers that are given
pub known-at : (parts : Parts) (i : ℕ) → IsAssembled parts → i < length parts.grains → IsBelow (length parts.subs.registry.names) (activation_at parts.grains i)
known-at parts i assembled within = All-at (λ entry. IsBelow (length parts.subs.registry.names) entry.1) parts.grains i no_grain assembled.numbered within

-- the parts agree, and a grain has this number
pub record HasGrain (parts : Parts) (g : GrainId) (i : ℕ) : Type 0 where
  pub agrees : Agrees parts
  pub found : number_of parts.grains g ≡ Some i

pub grain-within : {parts : Parts} {g : GrainId} {i : ℕ} → HasGrain parts g i → i < length parts.grains
grain-within {parts} {g} {i} has = place_of-within same_grain g i parts.grains has.found

pub grain-below : {parts : Parts} {g : GrainId} {i : ℕ} → HasGrain parts g i → IsBelow (length parts.subs.registry.names) (activation_at parts.grains i)
grain-below {parts} {g} {i} has = known-at parts i has.agrees.assembled (grain-within has)

-- the parts stay assembled where what the grains know is given, and whatever the rises and turns
pub grains-known : (parts : Parts) (grains : PlainGrains) → IsAssembled parts → AllByRecursion (λ entry. IsBelow (length parts.subs.registry.names) entry.1) grains → AreKnown parts.subs.registry.names parts.subs.states grains → IsAssembled (record parts { grains = grains })
grains-known parts grains assembled below known = record {
  most_subs = assembled.most_subs;
  most_rules = assembled.most_rules;
  most_events = assembled.most_events;
  cached = assembled.cached;
  numbered = below;
  known = known;
}

pub turns-known : (parts : Parts) (rises turns : ℕ) → IsAssembled parts → IsAssembled (record parts { rises = rises; turns = turns })
turns-known parts rises turns assembled = record {
  most_subs = assembled.most_subs;
  most_rules = assembled.most_rules;
  most_events = assembled.most_events;
  cached = assembled.cached;
  numbered = assembled.numbered;
  known = assembled.known;
}
