use Rattle.std.proofs.Common.{◌≡◌}
use Rattle.stream_cluster_tests.proofs.leaving.leave.Given as goal

abbrev pub invariant-loop-silo : goal.invariant-loop-silo
invariant-loop-silo g l = (l.running ≡ l.fn.running) × (l.producer ≡ l.fn.producer)
