-- Words on lists that the definitions are written in.
use Rattle.std.specs.Prelude.{◌≡◌, ℕ, zero, suc, Bool, ◌&&◌, List, [], ◌∷◌, ◌++◌, Option, Some, None, Result, Ok, Err, map, filter, is_some, min, nat_le, if◌then◌else◌, ◌==◌, true, false}
use Rattle.std.specs.declared.alloc.AllocError.{AllocError}
use Rattle.std.specs.Map.{lookup}
pub use Rattle.stream_ident.specs.Text.{or_else}

-- there is a number, and it is this one
abbrev pub has_number : ℕ → Option ℕ → Bool
has_number n None = false
has_number n (Some m) = m == n

-- the first place whose element passes, in a list whose first element has place n
abbrev pub first_at : {A : Type 0} → (A → Bool) → ℕ → List A → Option ℕ
first_at passes n [] = None
first_at passes n (x ∷ xs) = if passes x then Some n else first_at passes (suc n) xs

-- one past the last of rising positions, or n where there is none
abbrev pub past_from : ℕ → List ℕ → ℕ
past_from n [] = n
past_from n (position ∷ positions) = past_from (suc position) positions

-- one past the last of rising positions, 0 where there is none
abbrev pub past : List ℕ → ℕ
past positions = past_from 0 positions

-- the least of these numbers and n
abbrev pub least_with : ℕ → List ℕ → ℕ
least_with n [] = n
least_with n (x ∷ xs) = min x (least_with n xs)

-- the least in an order
abbrev pub lesser : {A : Type 0} → (A → A → Bool) → A → Option A → A
lesser lt a None = a
lesser lt a (Some b) = if lt b a then b else a

-- the least element of a list, if any
abbrev pub least : {A : Type 0} → (A → A → Bool) → List A → Option A
least lt [] = None
least lt (x ∷ xs) = Some (lesser lt x (least lt xs))

-- greater than the given one, always where none is given
abbrev pub is_above : {A : Type 0} → (A → A → Bool) → Option A → A → Bool
is_above lt None x = true
is_above lt (Some a) x = lt a x

-- the elements that are greater than the given one, all where none is given
abbrev pub above : {A : Type 0} → (A → A → Bool) → Option A → List A → List A
above lt None xs = xs
above lt (Some a) xs = filter (λ x. lt a x) xs

-- the least that is greater than the given one, else the least of all
abbrev pub next_after : {A : Type 0} → (A → A → Bool) → Option A → List A → Option A
next_after lt after xs = or_else (least lt (above lt after xs)) (least lt xs)

-- in a list of keys with their values: the value at a key
abbrev pub value_at : {K V : Type 0} → (K → K → Bool) → K → List (K × V) → Option V
value_at same key entries = lookup (same key) entries

-- the value at a key set, in the place of the old one or else at the end
abbrev pub with_value : {K V : Type 0} → (K → K → Bool) → K → V → List (K × V) → List (K × V)
with_value same key value [] = (key, value) ∷ []
with_value same key value (entry ∷ entries) =
    if same key entry.0 then (entry.0, value) ∷ entries else entry ∷ with_value same key value entries

-- the value at a key changed, where there is one
abbrev pub changed_value : {K V : Type 0} → (K → K → Bool) → K → (V → V) → List (K × V) → List (K × V)
changed_value same key change [] = []
changed_value same key change (entry ∷ entries) =
    if same key entry.0 then (entry.0, change entry.1) ∷ entries else entry ∷ changed_value same key change entries

-- each value changed
abbrev pub each_value : {K V : Type 0} → (V → V) → List (K × V) → List (K × V)
each_value change entries = map (λ entry. (entry.0, change entry.1)) entries

-- the keys whose values pass
abbrev pub keys_where : {K V : Type 0} → (V → Bool) → List (K × V) → List K
keys_where passes entries = map (λ entry. entry.0) (filter (λ entry. passes entry.1) entries)

-- the least place of a key
abbrev pub place_of : {K V : Type 0} → (K → K → Bool) → K → List (K × V) → Option ℕ
place_of same key entries = first_at (λ entry. same key entry.0) 0 entries

-- a list with one value changed
abbrev pub change_at : {K V : Type 0} → (V → V) → ℕ → List (K × V) → List (K × V)
change_at change n [] = []
change_at change zero (entry ∷ entries) = (entry.0, change entry.1) ∷ entries
change_at change (suc n) (entry ∷ entries) = entry ∷ change_at change n entries

-- the entry at the end, unless its key is there
abbrev pub with_new : {K V : Type 0} → (K → K → Bool) → List (K × V) → K × V → List (K × V)
with_new same entries entry = if is_some (value_at same entry.0 entries) then entries else entries ++ entry ∷ []

-- the call did what its definition says, or failed to allocate and changed nothing
abbrev pub Performs : {S R : Type 0} → S → S → Result R AllocError → S × R → Type 0
Performs old new (Ok told) stepped = (new, told) ≡ stepped
Performs old new (Err e) stepped = new ≡ old

-- From s the entries, the oldest first, lead to t, each with the reply of its step. The operation and the
-- reply of an entry are given by functions.
abbrev pub LeadsBy : {S E O R : Type 0} → (E → O) → (E → R) → (S → O → S × R) → S → List E → S → Type 0
LeadsBy op_of reply_of step s [] t = t ≡ s
LeadsBy op_of reply_of step s (e ∷ entries) t = ((step s (op_of e)).1 ≡ reply_of e) × LeadsBy op_of reply_of step (step s (op_of e)).0 entries t

-- The positions of the longest front of the deliveries, at most n, that are all of one subscription and rise
-- from this position on. The subscription and the position of a delivery are given by functions.
abbrev pub rising_front : {D K : Type 0} → (K → K → Bool) → (D → K) → (D → ℕ) → ℕ → K → ℕ → List D → List ℕ
rising_front same sub_of position_of zero s from deliveries = []
rising_front same sub_of position_of (suc n) s from [] = []
rising_front same sub_of position_of (suc n) s from (d ∷ deliveries) =
    if same s (sub_of d) && nat_le from (position_of d)
    then position_of d ∷ rising_front same sub_of position_of n s (suc (position_of d)) deliveries
    else []

-- one list begins the other
abbrev pub IsPrefixOf : {A : Type 0} → List A → List A → Type 0
IsPrefixOf {A} xs ys = (rest : List A) × (xs ++ rest ≡ ys)
