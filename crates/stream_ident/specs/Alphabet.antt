-- What a name may be made of.
use Rattle.std.specs.Prelude.{◌≡◌, ℕ, ◌<◌, ◌≤◌, Bool, true, ◌&&◌, ◌||◌, List, length, Option, Some, ◌==◌, nat_le, if◌then◌else◌}
use Rattle.std.specs.List.{list_all}
use Rattle.stream_ident.specs.declared.limits.TheConstants.{NAME_BYTES, PAYLOAD_BYTES}
use Rattle.stream_ident.specs.Text.{wrong_place}

-- A to Z, a to z, 0 to 9, and the three signs _ . -
abbrev pub is_name_byte : ℕ → Bool
is_name_byte byte =
    (nat_le 65 byte && nat_le byte 90) || ((nat_le 97 byte && nat_le byte 122) || ((nat_le 48 byte && nat_le byte 57)
    || ((byte == 95) || ((byte == 46) || (byte == 45)))))

-- 1 to 64 bytes of `A-Z a-z 0-9 _ . -`
pub record IsName (bytes : List ℕ) : Type 0 where
  pub some : 0 < length bytes
  pub short : length bytes ≤ NAME_BYTES
  pub good : list_all is_name_byte bytes ≡ true

-- the least wrong place of what isn't a name: that of the first byte outside the alphabet, 64 where it
-- is longer, and 0 where it is empty
abbrev pub wrong_in_name : List ℕ → Option ℕ
wrong_in_name bytes = if length bytes == 0 then Some 0 else wrong_place is_name_byte NAME_BYTES bytes

-- 0x20 to 0x7E
abbrev pub is_printable : ℕ → Bool
is_printable byte = nat_le 32 byte && nat_le byte 126

-- at most 256 bytes, each 0x20 to 0x7E
pub record IsPayload (bytes : List ℕ) : Type 0 where
  pub short : length bytes ≤ PAYLOAD_BYTES
  pub good : list_all is_printable bytes ≡ true

-- the least wrong place of what isn't a payload: that of the first byte that isn't printable, and 256
-- where it is longer
abbrev pub wrong_in_payload : List ℕ → Option ℕ
wrong_in_payload bytes = wrong_place is_printable PAYLOAD_BYTES bytes
