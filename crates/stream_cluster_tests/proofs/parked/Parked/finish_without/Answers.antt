use Rattle.std.proofs.Common.{List, subst, sym}
use Rattle.silo_loops.specs.Silos.{IsSiloAt, SiloView}
use Rattle.silo_threads.specs.Clusters.{RunsOn}
use Rattle.silo_threads.proofs.Standing.{all-remove}
use Rattle.stream_cluster_tests.proofs.parked.Parked.finish_without.Goals as goal

pub finish_parked-requires-clause-loops : goal.finish_parked-requires-clause-loops
finish_parked-requires-clause-loops g c κs within =
    subst (λ (silos : List SiloView). RunsOn c.self.inside.cluster.operator silos) (sym c.remove.ensures.items)
    (all-remove (IsSiloAt c.self.inside.cluster.operator.lines c.self.inside.cluster.operator.directory) c.self.inside.crew.items c.args.at c.self.invariant.runs)
