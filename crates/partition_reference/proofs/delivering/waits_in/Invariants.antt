use Rattle.partition_reference.proofs.Prelude.{◌≡◌, drop, waiting_in}
use Rattle.partition_reference.proofs.delivering.waits_in.Given as goal

abbrev pub invariant-loop-delivery : goal.invariant-loop-delivery
invariant-loop-delivery l = waiting_in l.sub (drop l.delivery-index l.delivery-items) ≡ waiting_in l.sub l.mailbox
