-- A directory as plain data.
use Rattle.std.specs.Prelude.{ℕ, []}
use Rattle.activation_directory.specs.Placed.{Placed}

-- placed grains with their silo and permit, how many permits were given, and how many may be given
pub record PlainDirectory : Type 0 where
  pub placed : Placed
  pub given : ℕ
  pub permits : ℕ

-- no grain is placed, before the first operation
abbrev pub empty : ℕ → PlainDirectory
empty permits = record { placed = []; given = 0; permits = permits }
