-- Subscriptions by name: their look-up, and their streams after a change.
use Rattle.pubsub_registry.proofs.Prelude.{◌≡◌, ◌∙◌, ◌<◌, ℕ, zero, suc, true, false, List, [], ◌∷◌, length, get_or, map, Option, Some, None, is_some, if◌then◌else◌, refl, sym, ap, subst, arith, Contains, true≢false, length-map, lookup, same_sub-refl, changed_value-none, none_from_is_some, same_sub, change_at, changed_value, first_at, SubName}
use Rattle.std.proofs.lemmas.Map.{none_passes_from_lookup}
use Rattle.indexmap.proofs.MapLemmas.{some_index}
use Rattle.stream_ident.proofs.FirstLemmas.{first_at-Some, position-key}
use Rattle.stream_ident.proofs.WordLemmas.{All-at}
use Rattle.pubsub_registry.specs.Registry.{closed_registration, no_entry}
use Rattle.pubsub_registry.specs.declared.registration.Registration.{Registration}

abbrev pub Names : Type 0
Names = List (SubName × Registration)

-- a name that isn't found has no registration
pub unfound : (names : Names) (s : SubName) (registration : Registration) → lookup (same_sub s) names ≡ None → Contains names (s, registration) → ⊥
unfound names s registration none there =
    let apart = All-at (λ (entry : SubName × Registration). same_sub s entry.0 ≡ false) names there.0 (s, registration) (none_passes_from_lookup (same_sub s) names none) there.1 in
    true≢false (sym (same_sub-refl s) ∙ ap (λ (entry : SubName × Registration). same_sub s entry.0) (sym there.2) ∙ apart)

-- closing changes only whether it is open
pub map-closed : {X : Type 0} (f : SubName × Registration → X) → ((entry : SubName × Registration) → f (entry.0, closed_registration entry.1) ≡ f entry)
    → (names : Names) (s : SubName) → map f (changed_value same_sub s closed_registration names) ≡ map f names
map-closed f same [] s = refl
map-closed f same (entry ∷ entries) s =
    elim (same_sub s entry.0) as (λ b. map f (if b then (entry.0, closed_registration entry.1) ∷ entries else entry ∷ changed_value same_sub s closed_registration entries) ≡ map f (entry ∷ entries)) [
      | true ↦ ap (λ first. first ∷ map f entries) (same entry)
      | false ↦ ap (λ rest. f entry ∷ rest) (map-closed f same entries s)
    ]

pub length-closed : (names : Names) (s : SubName) → length (changed_value same_sub s closed_registration names) ≡ length names
length-closed names s =
    let name_of = λ (entry : SubName × Registration). entry.0 in
    sym (length-map (changed_value same_sub s closed_registration names) name_of) ∙ ap length (map-closed name_of (λ _. refl) names s) ∙ length-map names name_of

-- ---- the place of a name

abbrev pub place_in : SubName → Names → Option ℕ
place_in s names = first_at (λ (entry : SubName × Registration). same_sub s entry.0) 0 names

-- what stands at the first place of a name, and what becomes of it
abbrev pub StandsAt : SubName → Names → ℕ → SubName × Registration → Type 0
StandsAt s names i d =
    (lookup (same_sub s) names ≡ Some (get_or names i d).1) × (change_at closed_registration i names ≡ changed_value same_sub s closed_registration names)

stands-here : (s : SubName) (names : Names) (i : ℕ) (d : SubName × Registration) → i < length names → same_sub s (get_or names i d).0 ≡ true → ((j : ℕ) → j < i → same_sub s (get_or names j d).0 ≡ false) → StandsAt s names i d
stands-here s [] i d within is before = absurd (omega arith)
stands-here s (entry ∷ entries) zero d within is before = (rw is refl, rw is refl)
stands-here s (entry ∷ entries) (suc i) d within is before =
    let apart = before 0 (omega arith) in
    let rest = stands-here s entries i d (omega arith) is (λ j less. before (suc j) (omega arith)) in
    (rw apart rest.0, rw apart (ap (λ (names : Names). entry ∷ names) rest.1))

pub stands-placed : (s : SubName) (names : Names) (i : ℕ) → place_in s names ≡ Some i → StandsAt s names i no_entry
stands-placed s names i found =
    let first = first_at-Some (λ (entry : SubName × Registration). same_sub s entry.0) 0 names no_entry i found in
    let same : first.place ≡ i = (let at = first.at in omega (arith, at)) in
    subst (λ n. StandsAt s names n no_entry) same (stands-here s names first.place no_entry first.within first.is first.before)

-- a name is found where it has a value
pub placed-valued : (s : SubName) (names : Names) → is_some (place_in s names) ≡ is_some (lookup (same_sub s) names)
placed-valued s names = ap is_some (sym (position-key (same_sub s) names)) ∙ some_index (same_sub s) names

pub value-unplaced : (s : SubName) (names : Names) → place_in s names ≡ None → lookup (same_sub s) names ≡ None
value-unplaced s names none = none_from_is_some (lookup (same_sub s) names) (sym (placed-valued s names) ∙ ap is_some none)

pub closed-unplaced : (s : SubName) (names : Names) → place_in s names ≡ None → names ≡ changed_value same_sub s closed_registration names
closed-unplaced s names none = sym (changed_value-none same_sub s closed_registration names (value-unplaced s names none))
