-- Keys in a row, none at a place that has nothing, and what is asked of them.
use Rattle.std.specs.Prelude.{ℕ, zero, suc, ◌+◌, Bool, false, List, [], ◌∷◌, drop, set, Option, Some, None, nat_le, min}
use Rattle.stream_ident.specs.Words.{first_at}

abbrev pub lesser_key : Option ℕ → Option ℕ → Option ℕ
lesser_key None other = other
lesser_key (Some key) None = Some key
lesser_key (Some key) (Some other) = Some (min key other)

-- the least key of a row, none where there is none
abbrev pub least_key : List (Option ℕ) → Option ℕ
least_key [] = None
least_key (key ∷ keys) = lesser_key key (least_key keys)

-- there is a key, and it is at most this
abbrev pub is_at_most : ℕ → Option ℕ → Bool
is_at_most bound None = false
is_at_most bound (Some key) = nat_le key bound

-- the first place at or past this one whose key is at most the bound
abbrev pub first_at_most : ℕ → ℕ → List (Option ℕ) → Option ℕ
first_at_most from bound keys = first_at (is_at_most bound) from (drop from keys)

-- the least place of the least key
abbrev pub place_of_least : Option ℕ → List (Option ℕ) → Option ℕ
place_of_least None keys = None
place_of_least (Some key) keys = first_at_most 0 key keys

-- the first place of the least key of a row
abbrev pub least_place : List (Option ℕ) → Option ℕ
least_place keys = place_of_least (least_key keys) keys

-- the row with one key at so many places that follow one another, from one on
abbrev pub filled : {T : Type 0} → ℕ → ℕ → T → List T → List T
filled from zero x xs = xs
filled from (suc count) x xs = set (filled from count x xs) (from + count) x
