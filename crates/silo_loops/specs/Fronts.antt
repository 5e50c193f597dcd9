-- Two lists, of which the first has as many elements or more.
use Rattle.std.specs.Prelude.{List, [], ◌∷◌}

-- R holds of each of the second list and of the one at its place in the first, which has as many or more
abbrev pub AllZipFront : {A B : Type 0} → (A → B → Type 0) → List A → List B → Type 0
AllZipFront R xs [] = Unit {0}
AllZipFront R [] (y ∷ ys) = ⊥
AllZipFront R (x ∷ xs) (y ∷ ys) = R x y × AllZipFront R xs ys
