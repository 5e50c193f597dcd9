-- Short texts in rows of a fixed length, the least place at which a text is wrong, and its two sides at a separator.
use Rattle.std.specs.Prelude.{◌≡◌, ℕ, ◌-◌, ◌≤◌, Bool, not, List, [], ◌∷◌, ◌++◌, length, Option, Some, None, position, take, replicate, nat_lt, ◌==◌, if◌then◌else◌}
use Rattle.std.specs.Option.{option_map}
use Rattle.std.proofs.Common.{sym, ap, ◌∙◌, subst}
use Rattle.std.proofs.lemmas.List.{length-take-le}

-- the first option where it is there, else the second
abbrev pub or_else : {A : Type 0} → Option A → Option A → Option A
or_else None other = other
or_else (Some x) other = Some x

-- the place of the first byte that isn't good among the first `most`, else `most` where there are more
abbrev pub wrong_place : (ℕ → Bool) → ℕ → List ℕ → Option ℕ
wrong_place good most bytes =
    or_else (position (λ byte. not (good byte)) (take most bytes)) (if nat_lt most (length bytes) then Some most else None)

-- the bytes before and behind the first separator
abbrev pub split_once : ℕ → List ℕ → Option (List ℕ × List ℕ)
split_once separator [] = None
split_once separator (byte ∷ bytes) =
    if byte == separator then Some ([], bytes) else option_map (λ parts. (byte ∷ parts.0, parts.1)) (split_once separator bytes)

-- a row of `room` places holds a text of `len` bytes in front, and zeros behind it
pub record IsPadded (room len : ℕ) (row : List ℕ) : Type 0 where
  pub fits : len ≤ room
  pub whole : length row ≡ room
  pub filled : row ≡ take len row ++ replicate (room - len) 0

pub length-padded : (room len : ℕ) (row : List ℕ) → IsPadded room len row → length (take len row) ≡ len
length-padded room len row padded =
    let Room : ℕ → Type 0 = λ n. len ≤ n in
    length-take-le len row (subst Room (sym padded.whole) padded.fits)

-- the text gives the row back
pub refilled : (room len : ℕ) (row : List ℕ) → IsPadded room len row → take len row ++ replicate (room - length (take len row)) 0 ≡ row
refilled room len row padded =
    ap (λ n. take len row ++ replicate (room - n) 0) (length-padded room len row padded) ∙ sym padded.filled
