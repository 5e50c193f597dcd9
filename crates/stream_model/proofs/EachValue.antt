-- Each value of a list of keys with their values changed, from the first to the last.
use Rattle.stream_model.proofs.Prelude.{◌≡◌, ℕ, zero, suc, ◌+◌, List, [], ◌∷◌, length, refl, ap, ◌∙◌, add-one, AllByRecursion, each_value}
use Rattle.stream_model.specs.Places.{change_at}

-- so many values changed
abbrev pub changed_front : {K V : Type 0} → (V → V) → ℕ → List (K × V) → List (K × V)
changed_front change zero entries = entries
changed_front change (suc n) [] = []
changed_front change (suc n) (entry ∷ entries) = (entry.0, change entry.1) ∷ changed_front change n entries

pub length-changed_front : {K V : Type 0} (change : V → V) (n : ℕ) (entries : List (K × V)) → length (changed_front change n entries) ≡ length entries
length-changed_front change zero entries = refl
length-changed_front change (suc n) [] = refl
length-changed_front change (suc n) (entry ∷ entries) = ap suc (length-changed_front change n entries)

changed_front-suc : {K V : Type 0} (change : V → V) (n : ℕ) (entries : List (K × V)) → change_at change n (changed_front change n entries) ≡ changed_front change (suc n) entries
changed_front-suc change zero [] = refl
changed_front-suc change zero (entry ∷ entries) = refl
changed_front-suc change (suc n) [] = refl
changed_front-suc {K} {V} change (suc n) (entry ∷ entries) = ap {B = List (K × V)} (λ rest. (entry.0, change entry.1) ∷ rest) (changed_front-suc change n entries)

-- one value more
pub changed_front-more : {K V : Type 0} (change : V → V) (n : ℕ) (entries now : List (K × V)) → now ≡ changed_front change n entries → change_at change n now ≡ changed_front change (n + 1) entries
changed_front-more change n entries now was =
    rw (was, add-one n) (changed_front-suc change n entries)

-- all of them
changed_front-length : {K V : Type 0} (change : V → V) (entries : List (K × V)) → changed_front change (length entries) entries ≡ each_value change entries
changed_front-length change [] = refl
changed_front-length {K} {V} change (entry ∷ entries) = ap {B = List (K × V)} (λ rest. (entry.0, change entry.1) ∷ rest) (changed_front-length change entries)

pub changed_front-all : {K V : Type 0} (change : V → V) (n : ℕ) (entries : List (K × V)) → n ≡ length entries → changed_front change n entries ≡ each_value change entries
changed_front-all change n entries is_n = ap (λ n. changed_front change n entries) is_n ∙ changed_front-length change entries

-- what holds of each entry
pub All-each_value : {K V : Type 0} (P : K × V → Type 0) (change : V → V) → ((entry : K × V) → P entry → P (entry.0, change entry.1)) → (entries : List (K × V)) → AllByRecursion P entries → AllByRecursion P (each_value change entries)
All-each_value P change each [] all = tt
All-each_value P change each (entry ∷ entries) all = (each entry all.0, All-each_value P change each entries all.1)
