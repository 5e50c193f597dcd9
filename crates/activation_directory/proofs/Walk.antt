-- A walk over the entries from the last to the first.
use Rattle.activation_directory.proofs.Prelude.{◌≡◌, ◌∙◌, ap, sym, ℕ, zero, suc, ◌+◌, ◌-◌, ◌<◌, true, false, [], ◌∷◌, Option, Some, drop, slice_get, arith, ◌==◌, grain_lt, lesser, GrainId}
use Rattle.activation_directory.specs.declared.place.Place.{Place}
use Rattle.activation_directory.specs.Placed.{Placed, least_on, count_on}

-- the entry at a place is the first of those from there on
drop-at : (placed : Placed) (i : ℕ) (entry : GrainId × Place) → Some entry ≡ slice_get placed i → drop i placed ≡ entry ∷ drop (suc i) placed
drop-at [] zero entry is = absurd (cc)
drop-at [] (suc i) entry is = absurd (cc)
drop-at (first ∷ rest) zero entry is = let same : entry ≡ first = cc in ap (λ e. e ∷ rest) (sym same)
drop-at (first ∷ rest) (suc i) entry is = drop-at rest i entry is

split : (placed : Placed) (i : ℕ) (entry : GrainId × Place) → 0 < i → Some entry ≡ slice_get placed (i - 1) → entry ∷ drop i placed ≡ drop (i - 1) placed
split placed i entry some is =
    let next : i ≡ suc (i - 1) = omega arith in
    ap (λ n. entry ∷ drop n placed) next ∙ sym (drop-at placed (i - 1) entry is)

-- one place down, at an entry of the silo
pub counted : (silo : ℕ) (placed : Placed) (i : ℕ) (entry : GrainId × Place) (found : Option GrainId) (count : ℕ) → 0 < i → Some entry ≡ slice_get placed (i - 1) → (entry.1.silo == silo) ≡ true → found ≡ least_on silo (drop i placed) → count ≡ count_on silo (drop i placed)
    → (Some (lesser grain_lt entry.0 found) ≡ least_on silo (drop (i - 1) placed)) × (count + 1 ≡ count_on silo (drop (i - 1) placed))
counted silo placed i entry found count some at is least so_far = rw (← split placed i entry some at, is) (ap {B = Option GrainId} (λ other. Some (lesser grain_lt entry.0 other)) least, omega (arith, so_far))

-- and at one of another
pub passed : (silo : ℕ) (placed : Placed) (i : ℕ) (entry : GrainId × Place) (found : Option GrainId) (count : ℕ) → 0 < i → Some entry ≡ slice_get placed (i - 1) → (entry.1.silo == silo) ≡ false → found ≡ least_on silo (drop i placed) → count ≡ count_on silo (drop i placed)
    → (found ≡ least_on silo (drop (i - 1) placed)) × (count ≡ count_on silo (drop (i - 1) placed))
passed silo placed i entry found count some at is least so_far = rw (← split placed i entry some at, is) (least, so_far)
