-- The passes of a cluster, taken into one caller.
use Rattle.std.specs.Prelude.{◌≡◌, List, [], ◌∷◌, map, Option}
use Rattle.std.specs.List.{AllByRecursion, AllZip}
use Rattle.stream_model.specs.declared.plain.PlainPartition.{PlainPartition}
use Rattle.turnstile.specs.Passes.{Origin}
use Rattle.silo_loops.specs.Lines.{LineView, NeverProduces, QueuePass}
use Rattle.silo_loops.specs.Passes.{IsOtherIn, IsPartOf}
use Rattle.queue_callers.specs.Calls.{JoinsAll, joined_passes, turnstiles}

-- the passes of a caller are at these turnstiles, in their order
abbrev pub AreAt : List (Option (Origin PlainPartition)) → List QueuePass → Type 0
AreAt at passes = turnstiles passes ≡ at

-- the pass of each line
abbrev pub passes_of : List LineView → List QueuePass
passes_of lines = map (λ (l : LineView). l.pass) lines

-- the passes of lines joined with every caller's, one caller after another
abbrev pub gathered : List QueuePass → List (List QueuePass) → List QueuePass
gathered passes [] = passes
gathered passes (caller ∷ callers) = gathered (joined_passes passes caller) callers

-- the second pass has all of the first, and both call under one number
pub record IsFirstOf (p q : QueuePass) : Type 0 where
  pub part : IsPartOf p q
  pub number : q.number ≡ p.number

-- The passes of lines have taken in those of callers. No call of a line's is a producer's.
pub record Gathers (lines : List QueuePass) (callers : List (List QueuePass)) (all : List QueuePass) : Type 0 where
  pub whole : all ≡ gathered lines callers
  pub first : AllZip IsFirstOf lines all
  pub others : AllByRecursion (λ caller. AllZip IsOtherIn caller all) callers
  pub never : AllByRecursion NeverProduces lines

-- passes have taken in those of one caller after another
abbrev pub JoinsEach : List QueuePass → List (List QueuePass) → List QueuePass → Type 0
JoinsEach ps [] rs = rs ≡ ps
JoinsEach ps (caller ∷ callers) rs = (between : List QueuePass) × JoinsAll ps caller between × JoinsEach between callers rs
