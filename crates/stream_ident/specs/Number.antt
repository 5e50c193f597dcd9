-- Numbers in decimal, without leading zeros.
use Rattle.std.specs.Prelude.{ℕ, ◌+◌, ◌-◌, ◌*◌, ◌^◌, Bool, ◌&&◌, not, List, [], ◌∷◌, length, slice_index, ◌==◌, nat_lt, Option, Some, None, if◌then◌else◌}
use Rattle.std.specs.Str.{all_ascii_digits}

-- the number that digits write after a number
abbrev pub value_after : ℕ → List ℕ → ℕ
value_after n [] = n
value_after n (digit ∷ digits) = value_after (10 * n + (digit - 48)) digits

-- digits, one at least, and no zero in front of others
abbrev pub is_numeral : List ℕ → Bool
is_numeral bytes =
    all_ascii_digits bytes && (nat_lt 0 (length bytes) && not ((slice_index bytes 0 == 48) && nat_lt 1 (length bytes)))

-- the number below 2^64 that bytes write in decimal without leading zeros
abbrev pub number_of : List ℕ → Option ℕ
number_of bytes =
    if is_numeral bytes && nat_lt (value_after 0 bytes) (2 ^ 64) then Some (value_after 0 bytes) else None
