use Rattle.std.proofs.Common.{◌≡◌}
use Rattle.stream_cluster_tests.proofs.cases.prepare.Given as goal

abbrev pub invariant-loop-row : goal.invariant-loop-row
invariant-loop-row g l = l.producer ≡ l.running
