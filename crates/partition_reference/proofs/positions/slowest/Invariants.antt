use Rattle.partition_reference.proofs.Prelude.{◌≡◌, drop, slowest, resumes_of}
use Rattle.partition_reference.proofs.SlowestResume.{least_after}
use Rattle.partition_reference.proofs.positions.slowest.Given as goal

abbrev pub invariant-loop-sub : goal.invariant-loop-sub
invariant-loop-sub l = least_after l.p.high l.slowest (resumes_of (drop l.sub-index l.sub-items)) ≡ slowest l.p
