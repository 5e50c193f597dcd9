-- Histories that proofs see more of than is stored.
use Rattle.std.specs.Prelude.{List, [], ◌∷◌, ◌++◌}
use Rattle.turnstile.specs.declared.asked.Asked.{Asked}
use Rattle.turnstile.specs.declared.history.Entry.{Entry}
use Rattle.turnstile.specs.declared.recorded.Recorded.{Recorded}
use Rattle.turnstile.specs.declared.recorded.Recorded.TheVariants.{Nothing, Then'}
use Rattle.turnstile.specs.History.{entry}

-- what a `Recorded` was shown, in order
abbrev pub recorded : {T : Type 0} → Recorded T → List T
recorded Nothing = []
recorded (Then' marker before last) = recorded before ++ last.value ∷ []

-- each call with its reply
abbrev pub answered : {O R : Type 0} → List (Asked O) → List R → List (Entry O R)
answered [] rs = []
answered (a ∷ qs) [] = []
answered (a ∷ qs) (r ∷ rs) = entry a.number a.op r ∷ answered qs rs
