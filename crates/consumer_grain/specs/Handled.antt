-- The positions of the events that a subscription has handled.
use Rattle.std.specs.Prelude.{◌≡◌, ℕ, suc, Bool, true, ◌&&◌, nat_le, List, [], ◌∷◌}
use Rattle.stream_ident.specs.Words.{past}

-- positions rise, from a number on
abbrev pub rises_from : ℕ → List ℕ → Bool
rises_from n [] = true
rises_from n (position ∷ positions) = nat_le n position && rises_from (suc position) positions

-- they rise, and this is one past the last of them
pub record IsHandled (handled : List ℕ) (one_past : ℕ) : Type 0 where
  pub rising : rises_from 0 handled ≡ true
  pub last : one_past ≡ past handled
