-- Rows of names from the least to the greatest.
use Rattle.std.specs.Prelude.{◌≡◌, ℕ, ◌≤◌, true, List, [], ◌∷◌, length, take, drop, All}
use Rattle.stream_ident.specs.SubName.{sub_lt}
use Rattle.stream_ident.specs.declared.ident.SubName.{SubName}

-- each name is less than all that follow it
abbrev pub IsAscending : List SubName → Type 0
IsAscending [] = Unit {0}
IsAscending (a ∷ names) = All (λ b. sub_lt a b ≡ true) names × IsAscending names

-- the names in front of this place are less than s, and s is less than those from it on
pub record IsPlaceOf (names : List SubName) (s : SubName) (at : ℕ) : Type 0 where
  pub within : at ≤ length names
  pub before : All (λ a. sub_lt a s ≡ true) (take at names)
  pub after : All (λ b. sub_lt s b ≡ true) (drop at names)
