use Rattle.std.proofs.Common.{refl, subst}
use Rattle.silo_loops.specs.Silos.{HasRun, SiloView}
use Rattle.stream_cluster_tests.proofs.parked.by_hints.Goals as goal

pub returns : goal.returns
returns g c =
    subst (λ (s : SiloView). HasRun s (record { silo = c.loops.inside.silo; agent = c.run.result; first = c.run-2.result; second = c.run-3.result })) c.loops.view_is
    (record { silo = refl; agent = c.run.ensures; follows = _; first = c.run-2.ensures; second = c.run-3.ensures })
