use Rattle.std.proofs.Common.{◌≡◌}
use Rattle.stream_cluster_tests.proofs.load.change_silos.Given as goal

abbrev pub invariant-loop-at : goal.invariant-loop-at
invariant-loop-at g l = l.running ≡ l.fn.running
