use Rattle.silo_threads.proofs.Prelude.{LineView, GoOn, GoesOn, List, subst, sym, ◌≡◌, AllByRecursion}
use Rattle.silo_threads.specs.Clusters.{ClusterView, HaveComeBack, RunsOn, all_noted}
use Rattle.silo_threads.proofs.Standing.{callers-on, finished-whole}
use Rattle.silo_threads.proofs.cluster.Cluster.finish_parked.Goals as goal

pub take_all_back-ends-requires-after_bounds : goal.take_all_back-ends-requires-after_bounds
take_all_back-ends-requires-after_bounds g c κs within = subst (λ (v : ClusterView). RunsOn v.operator c.args.loops.items) (sym c.self.view_is) c.requires.loops

pub finish-requires-after_bounds : goal.finish-requires-after_bounds
finish-requires-after_bounds g c κs within =
    let on = subst (λ (v : ClusterView). GoOn v.operator.lines c.take_all_back-ends.new.operator.lines) c.self.view_is c.take_all_back-ends.ensures.only.on.lines in
    let whole = subst (λ (ls : List LineView). GoOn c.args.self.operator.lines ls) (sym c.into_lines-doorbell.ensures) on in
    callers-on c.args.self.operator.lines c.into_lines-doorbell.result.1.items c.args.callers.items whole c.requires.callers

pub returns : goal.returns
returns g c =
    let on = subst (λ (v : ClusterView). GoOn v.operator.lines c.take_all_back-ends.new.operator.lines) c.self.view_is c.take_all_back-ends.ensures.only.on.lines in
    let whole = subst (λ (ls : List LineView). GoOn c.args.self.operator.lines ls) (sym c.into_lines-doorbell.ensures) on in
    let ended = subst (λ (v : ClusterView). c.take_all_back-ends.result ≡ all_noted v.ends c.args.loops.items) c.self.view_is c.take_all_back-ends.ensures.ends in
    let asks = subst (λ (v : ClusterView). GoesOn v.operator.directory c.take_all_back-ends.new.operator.directory) c.self.view_is c.take_all_back-ends.ensures.only.on.directory in
    let back = subst (λ (ls : List LineView). AllByRecursion (HaveComeBack ls c.take_all_back-ends.new.operator.directory) c.args.loops.items) (sym c.into_lines-doorbell.ensures) c.take_all_back-ends.ensures.back in
    finished-whole _ c.args.self (λ lines d ends. (ends ≡ all_noted c.args.self.ends c.args.loops.items) × AllByRecursion (HaveComeBack lines d) c.args.loops.items) c.args.callers.items c.into_lines-doorbell.result.1.items c.take_all_back-ends.new.operator.directory c.take_all_back-ends.result c.finish.result whole asks (ended, back) c.finish.ensures.finished c.finish.ensures.begun c.finish.ensures.producers
