use Rattle.step_core.proofs.Prelude.{◌≡◌, take}
use Rattle.step_core.specs.PlainOf.{plain_of}
use Rattle.step_core.specs.Reads.{summaries_in_order}
use Rattle.step_core.proofs.reading.summaries.Given as goal

abbrev pub invariant-loop-number : goal.invariant-loop-number
invariant-loop-number l = l.summaries.items ≡ take l.number-index (summaries_in_order (plain_of l.parts))
