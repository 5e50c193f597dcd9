use Rattle.silo_threads.proofs.Prelude.{AllocError, IsSiloAt, SiloView, ◌≡◌, Ok, Result, false, Some, ℕ, arith, ap, refl, subst, sym, true, ◌∙◌, slice_get_within}
use Rattle.stream_ident.proofs.WordLemmas.{All-at}
use Rattle.silo_threads.specs.Clusters.{AnswersDown, ClusterView, HasHalted, HasLeft, IsEmptied}
use Rattle.silo_threads.specs.declared.cluster.SiloDown.{SiloDown}
use Rattle.silo_threads.specs.declared.cluster.SiloDown.TheVariants as down
use Rattle.silo_threads.proofs.Standing.{cluster-gone, halted-so, has-noted, may-go, not-fixed, place-within, same-at, silo-place}
use Rattle.silo_threads.proofs.cluster.Cluster.silo_down.Goals as goal

pub leave-requires-clause-place : goal.leave-requires-clause-place
leave-requires-clause-place g c κs within =
    let v : ClusterView = record { operator = c.self.inside.operator; silos = c.self.inside.silos.items; ends = c.self.inside.ends; is_parked = c.self.inside.parked; is_halted = c.self.inside.halted; rounds = c.self.inside.rounds; looks = c.self.inside.looks } in
    let loops = c.self.invariant.loops (not-fixed v c.if-self.false c.if-self-2.false) in
    let here = place-within v.silos v.operator.live c.in-Some.place c.args.silo loops c.in-Some.ensures in
    silo-place v.silos v.operator.live c.in-Some.place c.remove-running.result loops here c.remove-running.ensures.value ∙ ap (λ (k : ℕ). Some k) (sym c.stop-loops.ensures.silo)

pub leave-requires-clause-at : goal.leave-requires-clause-at
leave-requires-clause-at g c κs within =
    let v : ClusterView = record { operator = c.self.inside.operator; silos = c.self.inside.silos.items; ends = c.self.inside.ends; is_parked = c.self.inside.parked; is_halted = c.self.inside.halted; rounds = c.self.inside.rounds; looks = c.self.inside.looks } in
    let loops = c.self.invariant.loops (not-fixed v c.if-self.false c.if-self-2.false) in
    let here = place-within v.silos v.operator.live c.in-Some.place c.args.silo loops c.in-Some.ensures in
    let stood = subst (λ (s : SiloView). IsSiloAt v.operator.lines v.operator.directory s) (sym c.remove-running.ensures.value) (All-at (IsSiloAt v.operator.lines v.operator.directory) v.silos c.in-Some.place c.remove-running.result c.self.invariant.at here) in
    same-at v.operator.lines v.operator.directory c.remove-running.result c.stop-loops.result stood c.stop-loops.ensures

pub leave-requires-clause-others : goal.leave-requires-clause-others
leave-requires-clause-others g c κs within =
    omega (arith, slice_get_within c.self.inside.operator.live c.in-Some.place c.args.silo c.in-Some.ensures, c.live_count.ensures, c.if-live_count-eq1.false)

pub invariant_of-self : goal.invariant_of-self
invariant_of-self g c =
    let v : ClusterView = record { operator = c.self.inside.operator; silos = c.self.inside.silos.items; ends = c.self.inside.ends; is_parked = c.self.inside.parked; is_halted = c.self.inside.halted; rounds = c.self.inside.rounds; looks = c.self.inside.looks } in
    cluster-gone v c.note_ends-self-inside.result c.leave.new.operator c.remove-running.new.self.items c.in-Some.place v.is_halted c.if-self.false c.if-self-2.false c.self.invariant c.remove-running.ensures.items c.leave.ensures.on (λ goes. c.in-Ok.ensures.left.live)

pub invariant_of-self-in-Err : goal.invariant_of-self-in-Err
invariant_of-self-in-Err g c =
    let v : ClusterView = record { operator = c.self.inside.operator; silos = c.self.inside.silos.items; ends = c.self.inside.ends; is_parked = c.self.inside.parked; is_halted = c.self.inside.halted; rounds = c.self.inside.rounds; looks = c.self.inside.looks } in
    cluster-gone v c.note_ends-self-inside.result c.leave.new.operator c.remove-running.new.self.items c.in-Some.place true c.if-self.false c.if-self-2.false c.self.invariant c.remove-running.ensures.items c.leave.ensures.on
    (λ goes. let differ : true ≡ false = goes in absurd (cc (differ)))

pub returns-in-Ok : goal.returns-in-Ok
returns-in-Ok g c =
    let v : ClusterView = record { operator = c.self.inside.operator; silos = c.self.inside.silos.items; ends = c.self.inside.ends; is_parked = c.self.inside.parked; is_halted = c.self.inside.halted; rounds = c.self.inside.rounds; looks = c.self.inside.looks } in
    let w : ClusterView = record { operator = c.leave.new.operator; silos = c.remove-running.new.self.items; ends = c.note_ends-self-inside.result; is_parked = c.self.inside.parked; is_halted = c.self.inside.halted; rounds = c.self.inside.rounds; looks = c.self.inside.looks } in
    let fixed = not-fixed v c.if-self.false c.if-self-2.false in
    let may = may-go v c.in-Some.place c.args.silo c.in-Some.ensures (λ one. c.if-live_count-eq1.false (c.live_count.ensures ∙ one)) in
    let found = has-noted v w c.in-Some.place c.args.silo c.remove-running.result c.stop-loops.result fixed c.self.invariant c.in-Some.ensures c.remove-running.ensures.value c.remove-running.ensures.items c.stop-loops.ensures
    (record { taken = c.leave.ensures.taken; causes = c.note_ends-self-inside.ensures.causes }) c.note_ends-self-inside.ensures.noted in
    subst (λ (u : ClusterView). AnswersDown u c.args.silo (Ok down.Down) w) c.self.view_is (
      fixed,
      may,
      record { on = c.leave.ensures.on; place = c.in-Some.place; stood = c.in-Some.ensures; left = subst (λ (k : ℕ). HasLeft k c.in-Some.place v.operator w.operator) found.0 c.in-Ok.ensures.left; same = (refl, refl, refl); goes_on = c.if-self-2.false },
      found.1.0,
      subst (λ (back : SiloView). IsEmptied w.operator.directory back) (sym found.1.1) c.in-Ok.ensures.emptied,
    )

pub returns-in-Err : goal.returns-in-Err
returns-in-Err g c =
    let v : ClusterView = record { operator = c.self.inside.operator; silos = c.self.inside.silos.items; ends = c.self.inside.ends; is_parked = c.self.inside.parked; is_halted = c.self.inside.halted; rounds = c.self.inside.rounds; looks = c.self.inside.looks } in
    let w : ClusterView = record { operator = c.leave.new.operator; silos = c.remove-running.new.self.items; ends = c.note_ends-self-inside.result; is_parked = c.self.inside.parked; is_halted = true; rounds = c.self.inside.rounds; looks = c.self.inside.looks } in
    let fixed = not-fixed v c.if-self.false c.if-self-2.false in
    let may = may-go v c.in-Some.place c.args.silo c.in-Some.ensures (λ one. c.if-live_count-eq1.false (c.live_count.ensures ∙ one)) in
    let found = has-noted v w c.in-Some.place c.args.silo c.remove-running.result c.stop-loops.result fixed c.self.invariant c.in-Some.ensures c.remove-running.ensures.value c.remove-running.ensures.items c.stop-loops.ensures
    (record { taken = c.leave.ensures.taken; causes = c.note_ends-self-inside.ensures.causes }) c.note_ends-self-inside.ensures.noted in
    let halted : HasHalted v w = record { on = c.leave.ensures.on; assignment = c.in-Err.ensures.kept; same = (refl, refl, refl); halted = refl } in
    subst (λ (u : ClusterView). AnswersDown u c.args.silo c.halted_with.result w) c.self.view_is
    (halted-so c.halted_with.result down.Limit (λ (r : Result SiloDown AllocError). AnswersDown v c.args.silo r w) c.in-Err.halt c.halted_with.ensures
    (λ is. (fixed, may, halted, found.1.0, c.in-Err.ensures.limit is)) (λ e. (fixed, may, halted, found.1.0)))
