use Rattle.stream_cluster_tests.proofs.Whole.{whole-new}
use Rattle.stream_cluster_tests.proofs.parked.Parked.new.Goals as goal

pub invariant_of-result : goal.invariant_of-result
invariant_of-result g c = whole-new _ c.in_ok-cluster.cluster c.in_ok-cluster.caller c.in_ok-cluster.crew.items c.in_ok-cluster.ensures
