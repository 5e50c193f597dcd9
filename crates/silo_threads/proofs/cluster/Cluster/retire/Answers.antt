use Rattle.silo_threads.proofs.Prelude.{IsSiloAt, SiloView, Some, arith, ap, length, refl, subst, sym, true, ◌∙◌, slice_get_within}
use Rattle.silo_threads.specs.Clusters.{AnswersRetire, ClusterView, IsBrokenOff, IsRetired}
use Rattle.silo_threads.specs.declared.cluster.Retired.TheVariants as retired
use Rattle.silo_threads.proofs.Standing.{halted-so, may-go, only-one, parked-stays}
use Rattle.silo_threads.proofs.cluster.Cluster.retire.Goals as goal

pub leave-requires-clause-place : goal.leave-requires-clause-place
leave-requires-clause-place g c κs within = c.in-Some.ensures ∙ ap (λ (s : SiloView). Some s.silo) c.loops.view_is

pub leave-requires-clause-at : goal.leave-requires-clause-at
leave-requires-clause-at g c κs within = subst (λ (v : ClusterView). IsSiloAt v.operator.lines v.operator.directory c.args.loops) (sym c.self.view_is) c.requires.at

pub leave-requires-clause-others : goal.leave-requires-clause-others
leave-requires-clause-others g c κs within =
    omega (arith, slice_get_within c.self.inside.operator.live c.in-Some.place c.loops.inside.silo c.in-Some.ensures, c.live_count.ensures, c.if-live_count-eq1.false)

pub invariant_of-self : goal.invariant_of-self
invariant_of-self g c =
    let v : ClusterView = record { operator = c.self.inside.operator; silos = c.self.inside.silos.items; ends = c.self.inside.ends; is_parked = c.self.inside.parked; is_halted = c.self.inside.halted; rounds = c.self.inside.rounds; looks = c.self.inside.looks } in
    parked-stays v c.note_ends-self-inside.result c.leave.new.operator v.is_halted (ap (λ (u : ClusterView). u.is_parked) c.self.view_is ∙ c.requires.parked) c.self.invariant

pub invariant_of-self-in-Err : goal.invariant_of-self-in-Err
invariant_of-self-in-Err g c =
    let v : ClusterView = record { operator = c.self.inside.operator; silos = c.self.inside.silos.items; ends = c.self.inside.ends; is_parked = c.self.inside.parked; is_halted = c.self.inside.halted; rounds = c.self.inside.rounds; looks = c.self.inside.looks } in
    parked-stays v c.note_ends-self-inside.result c.leave.new.operator true (ap (λ (u : ClusterView). u.is_parked) c.self.view_is ∙ c.requires.parked) c.self.invariant

pub returns-then-live_count-eq1 : goal.returns-then-live_count-eq1
returns-then-live_count-eq1 g c =
    let free = sym (ap (λ (u : ClusterView). u.is_halted) c.self.view_is) ∙ c.if-self.false in
    let count = c.live_count.ensures ∙ ap (λ (u : ClusterView). length u.operator.live) c.self.view_is in
    (free, only-one c.args.self.now.operator.live c.args.loops.silo (c.requires.live free) (sym count ∙ c.if-live_count-eq1.true), refl, refl)

pub returns-in-Ok : goal.returns-in-Ok
returns-in-Ok g c =
    let v : ClusterView = record { operator = c.self.inside.operator; silos = c.self.inside.silos.items; ends = c.self.inside.ends; is_parked = c.self.inside.parked; is_halted = c.self.inside.halted; rounds = c.self.inside.rounds; looks = c.self.inside.looks } in
    let w : ClusterView = record { operator = c.leave.new.operator; silos = c.self.inside.silos.items; ends = c.note_ends-self-inside.result; is_parked = c.self.inside.parked; is_halted = c.self.inside.halted; rounds = c.self.inside.rounds; looks = c.self.inside.looks } in
    let here = c.in-Some.ensures ∙ ap (λ (s : SiloView). Some s.silo) c.loops.view_is in
    let may = may-go v c.in-Some.place c.args.loops.silo here (λ one. c.if-live_count-eq1.false (c.live_count.ensures ∙ one)) in
    subst (λ (u : ClusterView). IsRetired u c.args.loops w) c.self.view_is (
      c.if-self.false,
      may,
      record { on = c.leave.ensures.on; place = c.in-Some.place; stood = here; left = c.in-Ok.ensures.left; same = (refl, refl, refl); goes_on = c.if-self.false },
      (c.note_ends-self-inside.ensures.noted, record { taken = c.leave.ensures.taken; causes = c.note_ends-self-inside.ensures.causes }),
      c.in-Ok.ensures.emptied,
    )

pub returns-in-Err : goal.returns-in-Err
returns-in-Err g c =
    let v : ClusterView = record { operator = c.self.inside.operator; silos = c.self.inside.silos.items; ends = c.self.inside.ends; is_parked = c.self.inside.parked; is_halted = c.self.inside.halted; rounds = c.self.inside.rounds; looks = c.self.inside.looks } in
    let w : ClusterView = record { operator = c.leave.new.operator; silos = c.self.inside.silos.items; ends = c.note_ends-self-inside.result; is_parked = c.self.inside.parked; is_halted = true; rounds = c.self.inside.rounds; looks = c.self.inside.looks } in
    let here = c.in-Some.ensures ∙ ap (λ (s : SiloView). Some s.silo) c.loops.view_is in
    let may = may-go v c.in-Some.place c.args.loops.silo here (λ one. c.if-live_count-eq1.false (c.live_count.ensures ∙ one)) in
    let broken : IsBrokenOff v c.args.loops w = (c.if-self.false, may, record { on = c.leave.ensures.on; assignment = c.in-Err.ensures.kept; same = (refl, refl, refl); halted = refl }, (c.note_ends-self-inside.ensures.noted, record { taken = c.leave.ensures.taken; causes = c.note_ends-self-inside.ensures.causes })) in
    subst (λ (u : ClusterView). AnswersRetire u c.args.loops c.halted_with.result w) c.self.view_is
    (halted-so c.halted_with.result retired.Limit (λ r. AnswersRetire v c.args.loops r w) c.in-Err.halt c.halted_with.ensures (λ is. (broken, c.in-Err.ensures.limit is)) (λ e. broken))
