use Rattle.std.proofs.Common.{◌≡◌}
use Rattle.stream_cluster_tests.proofs.producer.Producer.publish_all.Given as goal

abbrev pub invariant-loop-queue : goal.invariant-loop-queue
invariant-loop-queue g l = l.self ≡ l.fn.self
