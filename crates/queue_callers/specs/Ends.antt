-- How the loops of a run have ended.
use Rattle.std.specs.Prelude.{true, Option, Some, None}
use Rattle.doorbells.specs.declared.loop_end.Over.{Over}
use Rattle.doorbells.specs.declared.loop_end.Over.TheVariants.{Rounds, Limit, Memory}
use Rattle.queue_callers.specs.declared.ends.LoopEnds.{LoopEnds}

-- the marks of ended loops, with one loop more, which ended so, or was told to stop
abbrev pub ends_with : LoopEnds → Option Over → LoopEnds
ends_with ends None = ends
ends_with ends (Some Rounds) = record ends { rounds = true }
ends_with ends (Some Limit) = record ends { limit = true }
ends_with ends (Some Memory) = record ends { memory = true }
