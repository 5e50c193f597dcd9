-- What the functions that append a text leave.
use Rattle.std.specs.Prelude.{◌≡◌, List, ℕ, ◌++◌, Result, MatchResult}
use Rattle.std.specs.Io.{StartsWith}

-- the text was appended, or it failed and what was there still stands in front
abbrev pub Writes : {T E : Type 0} → List ℕ → List ℕ → Result T E → List ℕ → Type 0
Writes old new result text = MatchResult result (λ _. new ≡ old ++ text) (λ _. StartsWith new old)
