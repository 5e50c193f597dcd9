use Rattle.step_core.proofs.Prelude.{◌≡◌, ◌*◌, ◌≤◌, MAILBOX_PLACES}
use Rattle.step_core.proofs.PendingOps.{waits_before}
use Rattle.step_core.proofs.looking.all_waiting.Given as goal

abbrev pub invariant-loop-number : goal.invariant-loop-number
invariant-loop-number l = record {
  count : l.count ≡ waits_before l.parts.grains l.number;
  few : l.count ≤ MAILBOX_PLACES * l.number;
}
