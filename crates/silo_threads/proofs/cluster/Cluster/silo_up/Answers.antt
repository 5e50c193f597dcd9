use Rattle.silo_threads.proofs.Prelude.{AllocError, IsFresh, Ok, Result, refl, subst, true}
use Rattle.silo_threads.specs.Clusters.{AnswersUp, ClusterView, HasHalted}
use Rattle.silo_threads.specs.declared.cluster.SiloUp.{SiloUp}
use Rattle.silo_threads.specs.declared.cluster.SiloUp.TheVariants as up
use Rattle.silo_threads.proofs.Standing.{cluster-came, halted-so, not-fixed}
use Rattle.silo_threads.proofs.cluster.Cluster.silo_up.Goals as goal

pub invariant_of-self : goal.invariant_of-self
invariant_of-self g c =
    let v : ClusterView = record { operator = c.self.inside.operator; silos = c.self.inside.silos.items; ends = c.self.inside.ends; is_parked = c.self.inside.parked; is_halted = c.self.inside.halted; rounds = c.self.inside.rounds; looks = c.self.inside.looks } in
    let started = c.in-Ok.ensures.started in
    let fresh : IsFresh c.self.inside.rounds c.args.silo started.0 = started.2 in
    cluster-came v v.ends c.bring_up.new.operator c.bring_up.new.silos.items c.args.silo started.0 c.if-self.false c.if-self-2.false c.self.invariant started.1 fresh.0 c.bring_up.ensures.at c.bring_up.ensures.fresh c.in-Ok.ensures.live

pub returns-in-Ok : goal.returns-in-Ok
returns-in-Ok g c =
    let v : ClusterView = record { operator = c.self.inside.operator; silos = c.self.inside.silos.items; ends = c.self.inside.ends; is_parked = c.self.inside.parked; is_halted = c.self.inside.halted; rounds = c.self.inside.rounds; looks = c.self.inside.looks } in
    let w : ClusterView = record { operator = c.bring_up.new.operator; silos = c.bring_up.new.silos.items; ends = c.self.inside.ends; is_parked = c.self.inside.parked; is_halted = c.self.inside.halted; rounds = c.self.inside.rounds; looks = c.self.inside.looks } in
    subst (λ (u : ClusterView). AnswersUp u c.args.silo (Ok up.Up) w) c.self.view_is (
      not-fixed v c.if-self.false c.if-self-2.false,
      c.in-None.ensures,
      record { on = c.bring_up.ensures.on; seen = c.in-Ok.ensures.seen; directory = c.in-Ok.ensures.directory; live = c.in-Ok.ensures.live; started = c.in-Ok.ensures.started; spread = c.in-Ok.ensures.spread; stayed = c.in-Ok.ensures.stayed; ends = refl; same = (refl, refl, refl); goes_on = c.if-self-2.false },
    )

pub returns-in-Err : goal.returns-in-Err
returns-in-Err g c =
    let v : ClusterView = record { operator = c.self.inside.operator; silos = c.self.inside.silos.items; ends = c.self.inside.ends; is_parked = c.self.inside.parked; is_halted = c.self.inside.halted; rounds = c.self.inside.rounds; looks = c.self.inside.looks } in
    let w : ClusterView = record { operator = c.bring_up.new.operator; silos = c.bring_up.new.silos.items; ends = c.self.inside.ends; is_parked = c.self.inside.parked; is_halted = true; rounds = c.self.inside.rounds; looks = c.self.inside.looks } in
    let fixed = not-fixed v c.if-self.false c.if-self-2.false in
    let halted : HasHalted v w = record { on = c.bring_up.ensures.on; assignment = c.in-Err.ensures.kept; same = (refl, refl, refl); halted = refl } in
    subst (λ (u : ClusterView). AnswersUp u c.args.silo c.halted_with.result w) c.self.view_is
    (halted-so c.halted_with.result up.Limit (λ (r : Result SiloUp AllocError). AnswersUp v c.args.silo r w) c.in-Err.halt c.halted_with.ensures
    (λ is. (fixed, c.in-None.ensures, halted, c.in-Err.ensures.limit is, refl, c.bring_up.ensures.others)) (λ e. (fixed, c.in-None.ensures, halted, refl, c.bring_up.ensures.others)))
