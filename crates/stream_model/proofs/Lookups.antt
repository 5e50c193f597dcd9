-- A look-up by key, and the place of the key.
use Rattle.stream_model.proofs.Prelude.{◌≡◌, ℕ, zero, suc, ◌+◌, ◌<◌, ◌≤◌, Bool, true, false, List, [], ◌∷◌, ◌++◌, length, get_or, set, Option, Some, None, refl, ap, ◌∙◌, arith, set-get_or, changed_value, first_at, value_at, with_value}
use Rattle.std.specs.Prelude.{if◌then◌else◌}
use Rattle.stream_model.specs.Places.{place_of, change_at}
use Rattle.stream_ident.proofs.FirstLemmas.{first_at-Some}
use Rattle.stream_ident.proofs.WordLemmas.{cond_none, set-change_at}

-- a first place isn't below that of the list's first element
pub first_at-le : {A : Type 0} (passes : A → Bool) (n i : ℕ) (xs : List A) → first_at passes n xs ≡ Some i → n ≤ i
first_at-le passes n i [] e = absurd (cc)
first_at-le passes n i (x ∷ xs) e = let first = first_at-Some passes n (x ∷ xs) x i e in omega (arith, first.at)

-- nor past its end
pub first_at-within : {A : Type 0} (passes : A → Bool) (n j : ℕ) (xs : List A) → first_at passes n xs ≡ Some (n + j) → j < length xs
first_at-within passes n j [] e = absurd (cc)
first_at-within passes n j (x ∷ xs) e =
    let first = first_at-Some passes n (x ∷ xs) x (n + j) e in omega (arith, first.at, first.within)

-- where the place is that of the first element, this passes, and else it doesn't
first_at-here : {A : Type 0} (here : Bool) (passes : A → Bool) (n : ℕ) (xs : List A) → (if here then Some n else first_at passes (suc n) xs) ≡ Some (n + zero) → here ≡ true
first_at-here true passes n xs e = refl
first_at-here false passes n xs e = let le = first_at-le passes (suc n) (n + zero) xs e in absurd (omega arith)

first_at-later : {A : Type 0} (here : Bool) (passes : A → Bool) (n j : ℕ) (xs : List A) → (if here then Some n else first_at passes (suc n) xs) ≡ Some (n + suc j) → (here ≡ false) × (first_at passes (suc n) xs ≡ Some (suc n + j))
first_at-later true passes n j xs e = let same : n ≡ n + suc j = cc in absurd (omega arith)
first_at-later false passes n j xs e = (refl, e ∙ ap {B = Option ℕ} Some (omega arith))

-- in a list whose first element has place n: the value at the key is that of its place, and a change at
-- its place changes it
pub at_place : {K V : Type 0} (same : K → K → Bool) (key : K) (change : V → V) (n j : ℕ) (entries : List (K × V)) (d : K × V) → first_at (λ entry. same key entry.0) n entries ≡ Some (n + j)
    → (value_at same key entries ≡ Some (get_or entries j d).1) × (change_at change j entries ≡ with_value same key (change (get_or entries j d).1) entries) × (change_at change j entries ≡ changed_value same key change entries)
at_place same key change n j [] d e = absurd (cc)
at_place same key change n zero (entry ∷ entries) d e =
    rw (first_at-here (same key entry.0) (λ entry. same key entry.0) n entries e) (refl, refl, refl)
at_place same key change n (suc j) (entry ∷ entries) d e =
    let later = first_at-later (same key entry.0) (λ entry. same key entry.0) n j entries e in
    let rest = at_place same key change (suc n) j entries d later.1 in
    rw later.0 (rest.0, ap (λ now. entry ∷ now) rest.1, ap (λ now. entry ∷ now) rest.2)

-- the key's place is within the list
pub place_of-within : {K V : Type 0} (same : K → K → Bool) (key : K) (i : ℕ) (entries : List (K × V)) → place_of same key entries ≡ Some i → i < length entries
place_of-within same key i entries e = first_at-within (λ entry. same key entry.0) 0 i entries (e ∙ ap {B = Option ℕ} Some (omega arith))

-- and has its value
pub place_of-value : {K V : Type 0} (same : K → K → Bool) (key : K) (i : ℕ) (entries : List (K × V)) (d : K × V) → place_of same key entries ≡ Some i → value_at same key entries ≡ Some (get_or entries i d).1
place_of-value same key i entries d e = (at_place same key (λ v. v) 0 i entries d (e ∙ ap {B = Option ℕ} Some (omega arith))).0

-- which code reads at the place
pub place_of-read : {K V : Type 0} (same : K → K → Bool) (key : K) (i : ℕ) (entries now : List (K × V)) (x : K × V) → entries ≡ now → x ≡ get_or entries i x → place_of same key now ≡ Some i → value_at same key now ≡ Some x.1
place_of-read same key i entries now x is_now read e = rw (read, is_now) (place_of-value same key i now x e)

-- where the key's value is v, a change at its place sets the value
pub place_of-change : {K V : Type 0} (same : K → K → Bool) (key : K) (change : V → V) (v : V) (i : ℕ) (entries : List (K × V)) → place_of same key entries ≡ Some i → value_at same key entries ≡ Some v → change_at change i entries ≡ with_value same key (change v) entries
place_of-change same key change v i entries e is_v =
    let found = at_place same key change 0 i entries (key, v) (e ∙ ap {B = Option ℕ} Some (omega arith)) in
    let is_same : (get_or entries i (key, v)).1 ≡ v = cc (found.0, is_v) in
    found.1 ∙ ap (λ value. with_value same key (change value) entries) is_same

-- in a list whose first element has place n: a key with no place has no value
value_at_no_place : {K V : Type 0} (same : K → K → Bool) (key : K) (n : ℕ) (entries : List (K × V)) → first_at (λ entry. same key entry.0) n entries ≡ None → value_at same key entries ≡ None
value_at_no_place same key n [] e = refl
value_at_no_place same key n (entry ∷ entries) e =
    let apart = cond_none (same key entry.0) n (first_at (λ entry. same key entry.0) (suc n) entries) e in
    rw apart.0 (value_at_no_place same key (suc n) entries apart.1)

with_value-none : {K V : Type 0} (same : K → K → Bool) (key : K) (v : V) (entries : List (K × V)) → value_at same key entries ≡ None → with_value same key v entries ≡ entries ++ (key, v) ∷ []
with_value-none same key v [] e = refl
with_value-none same key v (entry ∷ entries) e =
    let apart = cond_none (same key entry.0) entry.1 (value_at same key entries) e in
    rw apart.0 (ap (λ rest. entry ∷ rest) (with_value-none same key v entries apart.1))

-- a key with no place has no value
pub place_of-none : {K V : Type 0} (same : K → K → Bool) (key : K) (entries : List (K × V)) → place_of same key entries ≡ None → value_at same key entries ≡ None
place_of-none same key entries e = value_at_no_place same key 0 entries e

-- and its value is set at the end
pub place_of-added : {K V : Type 0} (same : K → K → Bool) (key : K) (v : V) (entries : List (K × V)) → place_of same key entries ≡ None → with_value same key v entries ≡ entries ++ (key, v) ∷ []
place_of-added same key v entries e = with_value-none same key v entries (place_of-none same key entries e)

-- what code leaves that writes the value of an entry, which it read at a place
pub change_at-written : {K V : Type 0} (change : V → V) (i : ℕ) (entries now : List (K × V)) (x : K × V) (v : V) → entries ≡ now → x ≡ get_or entries i x → i < length now → v ≡ change x.1 → set entries i (x.0, v) ≡ change_at change i now
change_at-written change i entries now x v same read within changed =
    rw (changed, ← same, read) (set-change_at change i entries x (omega (arith, ap length same)))

-- what it leaves where the change may fail
pub change_at-tried : {K V : Type 0} (change : V → V) (done : Bool) (i : ℕ) (entries now : List (K × V)) (x : K × V) (v : V) → entries ≡ now → x ≡ get_or entries i x → i < length now → v ≡ (if done then change x.1 else x.1) → set entries i (x.0, v) ≡ (if done then change_at change i now else now)
change_at-tried change true i entries now x v same read within changed = change_at-written change i entries now x v same read within changed
change_at-tried change false i entries now x v same read within changed = rw (changed, ← same, read) (set-get_or entries i x)
