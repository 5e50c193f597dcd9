use Rattle.partition_reference.proofs.Prelude.{◌≡◌, drop}
use Rattle.partition_reference.proofs.SlowestName.{least_at}
use Rattle.partition_reference.proofs.positions.slowest_name.Given as goal

abbrev pub invariant-loop-index : goal.invariant-loop-index
invariant-loop-index l = l.least ≡ least_at l.resume (drop l.index l.subs)
