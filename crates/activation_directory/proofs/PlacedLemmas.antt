-- The place of a grain after a change of the directory.
use Rattle.activation_directory.proofs.Prelude.{◌≡◌, false, [], ◌∷◌, Option, Some, refl, ap, subst, cond_both, same_grain-equal, same_grain-refl, same_grain, GrainId}
use Rattle.std.proofs.Common.{if◌then◌else◌}
use Rattle.activation_directory.specs.declared.place.Place.{Place}
use Rattle.activation_directory.specs.Placed.{Placed, place_in, with_place, without}

-- the grain that was given a place has it
pub place_in-here : (placed : Placed) (grain : GrainId) (place : Place) → place_in (with_place placed grain place) grain ≡ Some place
place_in-here [] grain place = rw (same_grain-refl grain) refl
place_in-here (entry ∷ entries) grain place =
    cond_both (same_grain grain entry.0) ((entry.0, place) ∷ entries) (entry ∷ with_place entries grain place) (λ now. place_in now grain ≡ Some place) (λ here. rw here refl)
    (λ there. rw there (place_in-here entries grain place))

-- and another keeps its own
pub place_in-other : (placed : Placed) (other grain : GrainId) (place : Place) → same_grain other grain ≡ false → place_in (with_place placed grain place) other ≡ place_in placed other
place_in-other [] other grain place apart = rw apart refl
place_in-other (entry ∷ entries) other grain place apart =
    cond_both (same_grain grain entry.0) ((entry.0, place) ∷ entries) (entry ∷ with_place entries grain place) (λ now. place_in now other ≡ place_in (entry ∷ entries) other)
    (λ here. let away : same_grain other entry.0 ≡ false = subst (λ x. same_grain other x ≡ false) (same_grain-equal grain entry.0 here) apart in rw away refl)
    (λ _. ap {B = Option Place} (λ rest. if same_grain other entry.0 then Some entry.1 else rest) (place_in-other entries other grain place apart))

-- as it does where a grain is taken out
pub place_in-without : (placed : Placed) (other grain : GrainId) → same_grain other grain ≡ false → place_in (without placed grain) other ≡ place_in placed other
place_in-without [] other grain apart = refl
place_in-without (entry ∷ entries) other grain apart =
    cond_both (same_grain grain entry.0) entries (entry ∷ without entries grain) (λ now. place_in now other ≡ place_in (entry ∷ entries) other)
    (λ here. let away : same_grain other entry.0 ≡ false = subst (λ x. same_grain other x ≡ false) (same_grain-equal grain entry.0 here) apart in rw away refl)
    (λ _. ap {B = Option Place} (λ rest. if same_grain other entry.0 then Some entry.1 else rest) (place_in-without entries other grain apart))
