-- What calls of a source and of a sink leave: how often they failed, and what was written.
use Rattle.std.specs.Prelude.{◌≡◌, ℕ, suc, List, ◌++◌, Option, Result, Ok, Err}
use Rattle.std.specs.Io.KnownBytes.{Appends}

-- the failed calls after one more: a failed one counts
abbrev pub failures_after : {T E : Type 0} → ℕ → Result T E → ℕ
failures_after before (Ok x) = before
failures_after before (Err e) = suc before

-- a front of the text went out
abbrev pub AppendsFront : Option (List ℕ) → Option (List ℕ) → List ℕ → Type 0
AppendsFront old new text = (front : List ℕ) × (rest : List ℕ) × (text ≡ front ++ rest) × Appends old new front

-- the text went out up to this rest
abbrev pub AppendsUpTo : Option (List ℕ) → Option (List ℕ) → List ℕ → List ℕ → Type 0
AppendsUpTo old new text rest = (front : List ℕ) × (text ≡ front ++ rest) × Appends old new front
