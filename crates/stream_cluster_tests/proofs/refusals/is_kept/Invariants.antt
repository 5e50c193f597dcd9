use Rattle.std.proofs.Common.{◌≡◌}
use Rattle.stream_cluster_tests.proofs.refusals.is_kept.Given as goal

abbrev pub invariant-loop-silo : goal.invariant-loop-silo
invariant-loop-silo g l = l.running ≡ l.fn.running
