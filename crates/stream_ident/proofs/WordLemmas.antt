-- The words on lists.
use Rattle.stream_ident.proofs.Prelude.{◌≡◌, ◌∙◌, ℕ, zero, suc, ◌+◌, ◌≤◌, ◌<◌, List, [], ◌∷◌, ◌++◌, length, take, drop, get_or, refl, sym, ap, arith, Bool, false, true, true≢false, ltb-false, drop_more, length-take, take-take, nil_from_length, AllByRecursion, set}
use Rattle.std.proofs.Common.{if◌then◌else◌, ◌-◌, Option, Some, None, nat_lt}
use Rattle.std.specs.Option.{is_some, option_map}
use Rattle.stream_ident.specs.Words.{change_at, or_else, past_from, changed_value, past, value_at}

pub one-add : (n : ℕ) → 1 + n ≡ suc n
one-add n = omega arith

-- where a choice is none, its test fails
pub cond_none : {A : Type 0} (b : Bool) (x : A) (other : Option A) → (if b then Some x else other) ≡ None → (b ≡ false) × (other ≡ None)
cond_none true x other e = cc
cond_none false x other e = (refl, e)

pub or_else-none : {A : Type 0} (o : Option A) → or_else o None ≡ o
or_else-none None = refl
or_else-none (Some x) = refl

pub or_else-parts : {A : Type 0} (a b : Option A) → or_else a b ≡ None → (a ≡ None) × (b ≡ None)
or_else-parts None b none = (refl, none)
or_else-parts (Some x) b none = cc

pub past_from-append : (n : ℕ) (first second : List ℕ) → past_from n (first ++ second) ≡ past_from (past_from n first) second
past_from-append n [] second = refl
past_from-append n (position ∷ first) second = past_from-append (suc position) first second

past_from-last : (n : ℕ) (xs : List ℕ) (k : ℕ) → suc k ≡ length xs → past_from n xs ≡ suc (get_or xs k 0)
past_from-last n [] k len = absurd (omega arith)
past_from-last n (x ∷ []) zero len = refl
past_from-last n (x ∷ []) (suc k) len = absurd (omega arith)
past_from-last n (x ∷ y ∷ xs) zero len = absurd (omega arith)
past_from-last n (x ∷ y ∷ xs) (suc k) len = past_from-last (suc x) (y ∷ xs) k (omega arith)

-- one past rising positions is one past the last
pub past-last : (xs : List ℕ) → 0 < length xs → past xs ≡ suc (get_or xs (length xs - 1) 0)
past-last xs some = past_from-last 0 xs (length xs - 1) (omega arith)

-- where each position is below a number, one past the last is not above it
pub past_from-within : (n end : ℕ) (xs : List ℕ) → n ≤ end → AllByRecursion (λ position. position < end) xs → past_from n xs ≤ end
past_from-within n end [] below all = below
past_from-within n end (x ∷ xs) below all = past_from-within (suc x) end xs (omega (arith, all.0)) all.1

-- a front of a front
pub front-of-front : {X : Type 0} (xs ys zs : List X) → take (length xs) ys ≡ xs → take (length ys) zs ≡ ys → take (length xs) zs ≡ xs
front-of-front xs ys zs first second =
    let size = ap length first in
    let short : length xs ≤ length ys = omega (arith, length-take (length xs) ys, size) in
    sym (take-take (length xs) (length ys) zs short) ∙ ap (take (length xs)) second ∙ first

-- a change at a place sets the entry there
pub set-change_at : {K V : Type 0} (change : V → V) (i : ℕ) (entries : List (K × V)) (d : K × V) → i < length entries → set entries i ((get_or entries i d).0, change (get_or entries i d).1) ≡ change_at change i entries
set-change_at change i [] d h = absurd (omega arith)
set-change_at change zero (entry ∷ entries) d h = refl
set-change_at change (suc i) (entry ∷ entries) d h = ap (λ rest. entry ∷ rest) (set-change_at change i entries d (omega arith))

pub length-change_at : {K V : Type 0} (f : V → V) (j : ℕ) (xs : List (K × V)) → length (change_at f j xs) ≡ length xs
length-change_at f j [] = refl
length-change_at f zero (x ∷ xs) = refl
length-change_at f (suc j) (x ∷ xs) = ap suc (length-change_at f j xs)

pub is_some-map : {A B : Type 0} (f : A → B) (o : Option A) → is_some (option_map f o) ≡ is_some o
is_some-map f None = refl
is_some-map f (Some x) = refl

-- an option and a list with nothing in them
pub none_from_is_some : {A : Type 0} (o : Option A) → is_some o ≡ false → o ≡ None
none_from_is_some None none = refl
none_from_is_some (Some x) none = absurd (true≢false none)

pub nil_from_nat_lt : {A : Type 0} (xs : List A) → nat_lt 0 (length xs) ≡ false → xs ≡ []
nil_from_nat_lt xs none = nil_from_length xs (omega (arith, ltb-false 0 (length xs) none))

-- what holds of each element holds of the one with a number
pub All-at : {A : Type 0} (P : A → Type 0) (xs : List A) (i : ℕ) (d : A) → AllByRecursion P xs → i < length xs → P (get_or xs i d)
All-at P [] i d all within = absurd (omega (arith, within))
All-at P (x ∷ xs) zero d all within = all.0
All-at P (x ∷ xs) (suc i) d all within = All-at P xs i d all.1 (omega (arith, within))

-- what is left from a place on begins with what stands there
pub drop-read : {A : Type 0} (xs : List A) (i : ℕ) (x : A) → i < length xs → x ≡ get_or xs i x → drop i xs ≡ x ∷ drop (i + 1) xs
drop-read xs i x within read = drop_more xs i x within ∙ ap (λ y. y ∷ drop (i + 1) xs) (sym read)

-- a key with no value changes nothing
pub changed_value-none : {K V : Type 0} (same : K → K → Bool) (key : K) (change : V → V) (entries : List (K × V)) → value_at same key entries ≡ None → changed_value same key change entries ≡ entries
changed_value-none same key change [] e = refl
changed_value-none same key change (entry ∷ entries) e =
    let apart = cond_none (same key entry.0) entry.1 (value_at same key entries) e in
    rw apart.0 (ap (λ rest. entry ∷ rest) (changed_value-none same key change entries apart.1))
