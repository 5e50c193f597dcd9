-- In each directory that a legal history leaves, a grain is placed once. So the least grain of a silo is
-- placed on that silo.
use Rattle.activation_directory.proofs.Prelude.{◌≡◌, ◌∙◌, ℕ, true, false, List, [], ◌∷◌, Option, Some, None, refl, sym, ap, subst, true≢false, cond_both, false_from_ne_true, ◌==◌, same_grain-equal, same_grain-refl, grain_lt, same_grain, lesser, GrainId}
use Rattle.activation_directory.specs.declared.op.DirectoryOp.{DirectoryOp}
use Rattle.activation_directory.specs.declared.place.Place.{Place}
use Rattle.activation_directory.specs.Placed.{Placed, place_in, with_place, without, least_on}
use Rattle.activation_directory.specs.Plain.{PlainDirectory}
use Rattle.activation_directory.specs.Step.{Entry, Leads, step}
use Rattle.activation_directory.proofs.Cases.{step-cases}
use Rattle.activation_directory.proofs.PlacedLemmas.{place_in-other, place_in-without}

-- no grain has a second entry
abbrev pub IsUnique : Placed → Type 0
IsUnique [] = Unit {0}
IsUnique (entry ∷ entries) = (place_in entries entry.0 ≡ None) × IsUnique entries

apart-sym : (a b : GrainId) → same_grain a b ≡ false → same_grain b a ≡ false
apart-sym a b apart =
    false_from_ne_true (same_grain b a) (λ same. true≢false (sym (same_grain-refl a) ∙ ap (λ g. same_grain a g) (sym (same_grain-equal b a same)) ∙ apart))

unique-with : (placed : Placed) (grain : GrainId) (place : Place) → IsUnique placed → IsUnique (with_place placed grain place)
unique-with [] grain place unique = (refl, tt)
unique-with (entry ∷ entries) grain place unique =
    cond_both (same_grain grain entry.0) ((entry.0, place) ∷ entries) (entry ∷ with_place entries grain place) IsUnique
    (λ here. unique)
    (λ there. (place_in-other entries entry.0 grain place (apart-sym grain entry.0 there) ∙ unique.0, unique-with entries grain place unique.1))

unique-without : (placed : Placed) (grain : GrainId) → IsUnique placed → IsUnique (without placed grain)
unique-without [] grain unique = unique
unique-without (entry ∷ entries) grain unique =
    cond_both (same_grain grain entry.0) entries (entry ∷ without entries grain) IsUnique
    (λ here. unique.1)
    (λ there. (place_in-without entries entry.0 grain (apart-sym grain entry.0 there) ∙ unique.0, unique-without entries grain unique.1))

pub unique-step : (d : PlainDirectory) → IsUnique d.placed → (op : DirectoryOp) → IsUnique (step d op).0.placed
unique-step d unique op = step-cases (λ stepped. IsUnique stepped.0.placed) d op
    (λ reply none. unique) (λ grain place more. unique-with d.placed grain place unique) (λ grain place. unique-with d.placed grain place unique) (λ grain reply none. unique-without d.placed grain unique)

-- along a history
pub unique-leads : (d : PlainDirectory) (entries : List Entry) (e : PlainDirectory) → IsUnique d.placed → Leads d entries e → IsUnique e.placed
unique-leads d [] e unique same = subst (λ x. IsUnique x.placed) (sym same) unique
unique-leads d (x ∷ xs) e unique leads = unique-leads (step d x.op).0 xs e (unique-step d unique x.op) leads.1

-- the grain is placed on the silo
abbrev pub IsPlacedOn : ℕ → Placed → GrainId → Type 0
IsPlacedOn silo placed grain = (place : Place) × (place_in placed grain ≡ Some place) × ((place.silo == silo) ≡ true)

-- so it is with an entry of another grain in front
placed-later : (silo : ℕ) (entry : GrainId × Place) (entries : Placed) (grain : GrainId) → place_in entries entry.0 ≡ None → IsPlacedOn silo entries grain → IsPlacedOn silo (entry ∷ entries) grain
placed-later silo entry entries grain none on =
    (elim (same_grain grain entry.0) as (λ b. same_grain grain entry.0 ≡ b → IsPlacedOn silo (entry ∷ entries) grain) [
      | true ↦ λ same. let found : Some on.0 ≡ None = sym on.1 ∙ ap (place_in entries) (same_grain-equal grain entry.0 same) ∙ none in absurd (cc)
      | false ↦ λ other. (on.0, rw other on.1, on.2)
    ]) refl

-- the lesser of the first grain and the least of the rest
lesser-on : (silo : ℕ) (entry : GrainId × Place) (entries : Placed) (rest : Option GrainId) (grain : GrainId) → place_in entries entry.0 ≡ None → (entry.1.silo == silo) ≡ true
    → ((other : GrainId) → rest ≡ Some other → IsPlacedOn silo entries other) → Some (lesser grain_lt entry.0 rest) ≡ Some grain → IsPlacedOn silo (entry ∷ entries) grain
lesser-on silo entry entries None grain none here on is =
    let same : entry.0 ≡ grain = cc in
    subst (IsPlacedOn silo (entry ∷ entries)) same (entry.1, rw (same_grain-refl entry.0) refl, here)
lesser-on silo entry entries (Some other) grain none here on is =
    cond_both (grain_lt other entry.0) other entry.0 (λ least. Some least ≡ Some grain → IsPlacedOn silo (entry ∷ entries) grain)
    (λ _ is. let same : other ≡ grain = cc in placed-later silo entry entries grain none (on grain (ap {B = Option GrainId} Some same)))
    (λ _ is. let same : entry.0 ≡ grain = cc in subst (IsPlacedOn silo (entry ∷ entries)) same (entry.1, rw (same_grain-refl entry.0) refl, here)) is

pub least_on-placed : (silo : ℕ) (placed : Placed) (grain : GrainId) → IsUnique placed → least_on silo placed ≡ Some grain → IsPlacedOn silo placed grain
least_on-placed silo [] grain unique is = absurd (cc)
least_on-placed silo (entry ∷ entries) grain unique is =
    (elim (entry.1.silo == silo) as (λ b. (entry.1.silo == silo) ≡ b → IsPlacedOn silo (entry ∷ entries) grain) [
      | true ↦ λ here. lesser-on silo entry entries (least_on silo entries) grain unique.0 here (λ other found. least_on-placed silo entries other unique.1 found) (rw here at is)
      | false ↦ λ there. placed-later silo entry entries grain unique.0 (least_on-placed silo entries grain unique.1 (rw there at is))
    ]) refl
