use Rattle.silo_threads.proofs.Prelude.{LineView, GoOn, GoesOn, HasRun, List, Ok, subst, sym, AllZip}
use Rattle.turnstile.specs.Recorded.{recorded}
use Rattle.silo_threads.specs.Clusters.{AreFresh, ClusterView, HaveEnded}
use Rattle.silo_threads.proofs.Standing.{callers-on, finished-whole}
use Rattle.silo_threads.proofs.cluster.Cluster.finish.Goals as goal

pub finish-requires-after_bounds : goal.finish-requires-after_bounds
finish-requires-after_bounds g c κs within =
    let on = subst (λ (v : ClusterView). GoOn v.operator.lines c.stop_all-loops.new.operator.lines) c.self.view_is c.stop_all-loops.ensures.only.on.lines in
    let whole = subst (λ (ls : List LineView). GoOn c.args.self.operator.lines ls) (sym c.into_lines-doorbell.ensures) on in
    callers-on c.args.self.operator.lines c.into_lines-doorbell.result.1.items c.args.callers.items whole c.requires

pub returns : goal.returns
returns g c =
    let on = subst (λ (v : ClusterView). GoOn v.operator.lines c.stop_all-loops.new.operator.lines) c.self.view_is c.stop_all-loops.ensures.only.on.lines in
    let whole = subst (λ (ls : List LineView). GoOn c.args.self.operator.lines ls) (sym c.into_lines-doorbell.ensures) on in
    let back = recorded c.stop_all-loops.result.1 in
    let fresh = subst (λ (v : ClusterView). AreFresh v.rounds v.silos) c.self.view_is c.self.invariant.fresh in
    let ran = subst (λ (v : ClusterView). AllZip HasRun v.silos back) c.self.view_is c.stop_all-loops.ensures.ran in
    let asks = subst (λ (v : ClusterView). GoesOn v.operator.directory c.stop_all-loops.new.operator.directory) c.self.view_is c.stop_all-loops.ensures.only.on.directory in
    let ended = subst (λ (v : ClusterView). HaveEnded v.ends back c.stop_all-loops.new.operator.lines c.stop_all-loops.new.operator.directory c.stop_all-loops.result.0) c.self.view_is c.stop_all-loops.ensures.ends in
    let by = subst (λ (ls : List LineView). HaveEnded c.args.self.ends back ls c.stop_all-loops.new.operator.directory c.stop_all-loops.result.0) (sym c.into_lines-doorbell.ensures) ended in
    finished-whole _ c.args.self (λ lines d ends. AreFresh c.args.self.rounds c.args.self.silos × AllZip HasRun c.args.self.silos back × HaveEnded c.args.self.ends back lines d ends) c.args.callers.items c.into_lines-doorbell.result.1.items c.stop_all-loops.new.operator.directory c.stop_all-loops.result.0 (Ok c.in_ok-finished.finished) whole asks (fresh, ran, by) c.in_ok-finished.ensures.finished c.in_ok-finished.ensures.begun c.in_ok-finished.ensures.producers
