use Rattle.partition_reference.proofs.Prelude.{◌≡◌, drop, has}
use Rattle.partition_reference.proofs.pulling.is_there.Given as goal

abbrev pub invariant-loop-other : goal.invariant-loop-other
invariant-loop-other l = has l.name (drop l.other-index l.subs) ≡ has l.name l.subs
