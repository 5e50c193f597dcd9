use Rattle.stream_cluster_tests.proofs.Whole.{whole-fixed}
use Rattle.stream_cluster_tests.proofs.parked.Parked.up.Goals as goal

pub invariant_of-self : goal.invariant_of-self
invariant_of-self g c =
    whole-fixed c.self.inside.cluster c.silo_up.new.self c.self.inside.caller c.self.inside.crew.items c.args.silo c.silo_up.result c.silo_up.ensures c.self.invariant
