-- How many grains are left on a silo where one of them is taken out.
use Rattle.activation_directory.proofs.Prelude.{◌≡◌, ◌∙◌, ℕ, ◌+◌, true, false, [], ◌∷◌, Option, Some, None, refl, sym, ap, arith, IfSome, ◌==◌, if◌then◌else◌, same_grain, GrainId}
use Rattle.std.specs.List.{AllByRecursion, IsDistinct}
use Rattle.std.specs.Map.{keys_of}
use Rattle.activation_directory.specs.declared.place.Place.{Place}
use Rattle.activation_directory.specs.Placed.{Placed, place_in, without, least_on, count_on}
use Rattle.activation_directory.proofs.Unique.{IsPlacedOn, IsUnique, least_on-placed}

-- a map has no second entry of a grain
none-apart : (grain : GrainId) (entries : Placed) → AllByRecursion (λ other. same_grain grain other ≡ false) (keys_of entries) → place_in entries grain ≡ None
none-apart grain [] apart = refl
none-apart grain (entry ∷ entries) apart = rw apart.0 (none-apart grain entries apart.1)

unique-map : (placed : Placed) → IsDistinct same_grain (keys_of placed) → IsUnique placed
unfolding IsDistinct
unique-map [] distinct = tt
unique-map (entry ∷ entries) distinct = (none-apart entry.0 entries distinct.0, unique-map entries distinct.1)

-- one less than before
count-without : (silo : ℕ) (placed : Placed) (grain : GrainId) → IsPlacedOn silo placed grain → count_on silo placed ≡ count_on silo (without placed grain) + 1
count-without silo [] grain on = absurd (let none : None ≡ Some on.0 = on.1 in cc)
count-without silo (entry ∷ entries) grain on =
    (elim (same_grain grain entry.0) as (λ b. (if b then Some entry.1 else place_in entries grain) ≡ Some on.0 → count_on silo (entry ∷ entries) ≡ count_on silo (if b then entries else entry ∷ without entries grain) + 1) [
      | true ↦ λ found. let same : entry.1 ≡ on.0 = cc in rw (ap (λ (place : Place). place.silo == silo) same ∙ on.2) (omega arith)
      | false ↦ λ found.
          let rest : count_on silo entries ≡ count_on silo (without entries grain) + 1 = count-without silo entries grain (on.0, found, on.2) in
          (elim (entry.1.silo == silo) as (λ c. (entry.1.silo == silo) ≡ c → count_on silo (entry ∷ entries) ≡ count_on silo (entry ∷ without entries grain) + 1) [
            | true ↦ λ here. rw here (omega (arith, rest))
            | false ↦ λ there. rw there rest
          ]) refl
    ]) on.1

-- where the least of the silo is taken out of a map
pub count-others : (silo : ℕ) (placed : Placed) (found : Option GrainId) (count : ℕ) → IsDistinct same_grain (keys_of placed) → found ≡ least_on silo placed → count ≡ count_on silo placed → IfSome found (λ grain. count ≡ count_on silo (without placed grain) + 1)
count-others silo placed None count distinct is counted = tt
count-others silo placed (Some grain) count distinct is counted =
    counted ∙ count-without silo placed grain (least_on-placed silo placed grain (unique-map placed distinct) (sym is))
