-- The number of a name is the place where it stands.
use Rattle.step_core.proofs.Prelude.{SubState, Registration, ◌≡◌, ◌∙◌, ap, refl, ℕ, ◌<◌, List, [], ◌∷◌, length, get_or, map, Option, Some, arith, sym, false_from_ne_true, get_or-map, first_at-there, place_of-key, same_sub-refl, same_sub-equal, same_sub, place_of, SubName, Explicit, sub_at, Subscription, no_entry}
use Rattle.step_core.specs.Numbers.{AreDistinct}
use Rattle.step_core.specs.declared.parts.Parts.{Parts}
use Rattle.step_core.specs.PlainOf.{plain_of}
use Rattle.step_core.specs.Serving.{name_of}
use Rattle.step_core.specs.View.{name_at, subs_of}
use Rattle.step_core.proofs.RecordOps.{record-found, record_at}

-- the name under a number is that of the entry
pub name-of-entry : (names : List (SubName × Registration)) (i : ℕ) (d : SubName × Registration) → i < length names → name_at names i ≡ (get_or names i d).0
name-of-entry names i d within = get_or-map (λ (entry : SubName × Registration). entry.0) names i d (Explicit 0) within

-- and a name is that of the entry at its place
pub name-of-place : (s : SubName) (names : List (SubName × Registration)) (number : ℕ) (d : SubName × Registration) → place_of same_sub s names ≡ Some number → s ≡ (get_or names number d).0
name-of-place s names number d found = same_sub-equal s (get_or names number d).0 (place_of-key same_sub s names d number found)

pub number-of-name : (names : List (SubName × Registration)) (j : ℕ) → AreDistinct names → j < length names → place_of same_sub (name_at names j) names ≡ Some j
number-of-name names j distinct within =
    let s = name_at names j in
    first_at-there (λ (entry : SubName × Registration). same_sub s entry.0) 0 names no_entry j within
    (ap (same_sub s) (sym (name-of-entry names j no_entry within)) ∙ same_sub-refl s)
    (λ i before.
    ap (same_sub s) (sym (name-of-entry names i no_entry (omega (arith, before, within))))
    ∙ false_from_ne_true (same_sub s (name_at names i)) (λ same.
    let equal = distinct j i within (omega (arith, before, within)) same in absurd (omega (arith, before, equal))))
    ∙ ap {B = Option ℕ} Some (omega arith)

-- the record of the name under a number
pub record-of-number : (parts : Parts) (j : ℕ) (d : SubName × Registration) (e : SubState) → AreDistinct parts.subs.registry.names → length parts.subs.registry.names ≡ length parts.subs.states → j < length parts.subs.registry.names → sub_at (plain_of parts) (name_at parts.subs.registry.names j) ≡ Some (record_at parts j d e)
record-of-number parts j d e distinct lengths within =
    record-found parts (name_at parts.subs.registry.names j) j d e lengths (number-of-name parts.subs.registry.names j distinct within)

-- the names of the plain partition are those of the table
names-same : (names : List (SubName × Registration)) (states : List SubState) → length names ≡ length states → map (λ (entry : SubName × Subscription). entry.0) (subs_of names states) ≡ map (λ (entry : SubName × Registration). entry.0) names
names-same [] states lengths = refl
names-same (entry ∷ names) [] lengths = absurd (omega (arith, lengths))
names-same (entry ∷ names) (state ∷ states) lengths = ap (λ rest. entry.0 ∷ rest) (names-same names states (omega (arith, lengths)))

pub name_of-same : (parts : Parts) (number : ℕ) → length parts.subs.registry.names ≡ length parts.subs.states → name_of (plain_of parts) number ≡ name_at parts.subs.registry.names number
name_of-same parts number lengths = ap (λ names. get_or names number (Explicit 0)) (names-same parts.subs.registry.names parts.subs.states lengths)
