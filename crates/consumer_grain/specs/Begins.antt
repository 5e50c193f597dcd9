-- What is known of a turn that begins.
use Rattle.std.specs.Prelude.{◌≡◌, ℕ, true}
use Rattle.consumer_grain.specs.Handled.{rises_from}
use Rattle.consumer_grain.specs.declared.told.Begun.{Begun}
use Rattle.consumer_grain.specs.declared.told.Begun.TheVariants.{Busy, Empty, Dropped, Turn}

-- the positions of a turn rise, from a number on
abbrev pub RisesFrom : ℕ → Begun → Type 0
RisesFrom past Busy = Unit {0}
RisesFrom past Empty = Unit {0}
RisesFrom past (Dropped delivery) = Unit {0}
RisesFrom past (Turn sub positions) = rises_from past positions ≡ true
