use Rattle.step_core.proofs.Prelude.{◌-◌, empty_mailboxes}
use Rattle.step_core.proofs.DrainLoops.{Suffices, turns_up_to}
use Rattle.step_core.proofs.draining.empty_mailboxes.Given as goal

abbrev pub invariant-loop : goal.invariant-loop
invariant-loop l = Suffices l.fn.partition l.partition (turns_up_to (l.end - l.counter) l.partition) (empty_mailboxes l.fn.partition)
