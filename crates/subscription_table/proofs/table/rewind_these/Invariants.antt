use Rattle.subscription_table.proofs.Prelude.{take}
use Rattle.subscription_table.specs.Rows.{AreRewoundAt}
use Rattle.subscription_table.proofs.table.rewind_these.Given as goal

abbrev pub invariant-loop-number : goal.invariant-loop-number
invariant-loop-number l = AreRewoundAt (take l.number-index l.numbers) l.initial.states l.states
