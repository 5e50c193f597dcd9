use Rattle.silo_threads.proofs.Prelude.{SiloView, List, ap, arith, refl, rules, subst, sym, ◌∙◌, common_steps, YieldsList-from_vec, YieldsList-end, map-id, AllByRecursion, All-push}
use Rattle.queue_callers.specs.declared.ends.LoopEnds.{LoopEnds}
use Rattle.silo_operators.proofs.Spreading.{only-refl}
use Rattle.silo_threads.specs.Clusters.{HaveComeBack, RunsOn, all_noted, noted}
use Rattle.silo_threads.proofs.Standing.{all-back, noted-push, only-trans, sits-on}
use Rattle.silo_threads.proofs.changes.take_all_back.Goals as goal

pub take_back-requires-after_bounds : goal.take_back-requires-after_bounds
take_back-requires-after_bounds g c κs within =
    let runs = subst (λ (ss : List SiloView). RunsOn c.loop-loops.operator ss) c.in-Some.ensures.steps.0 c.loop-loops.invariant.runs in
    runs.0

pub loop-loops-init : goal.loop-loops-init
loop-loops-init g c =
    record { only = only-refl c.args.operator.now; runs = subst (λ (ss : List SiloView). RunsOn c.args.operator.now ss) (sym c.into_iter-loops-iterator.ensures.into_iter_gives.0) c.requires; ends = refl; back = tt }

pub loop-loops-preserved : goal.loop-loops-preserved
loop-loops-preserved g c =
    let runs = subst (λ (ss : List SiloView). RunsOn c.loop-loops.operator ss) c.in-Some.ensures.steps.0 c.loop-loops.invariant.runs in
    record {
      only = only-trans c.args.operator.now c.loop-loops.operator c.take_back.new.self c.loop-loops.invariant.only c.take_back.ensures.only;
      runs = sits-on c.loop-loops.operator c.take_back.new.self _ c.take_back.ensures.only.on runs.1;
      ends = c.note_ends-ends.ensures.noted ∙ ap (λ (e : LoopEnds). noted e c.in-Some.loops) c.loop-loops.invariant.ends ∙ sym (noted-push c.args.ends c.loop-loops.yielded c.in-Some.loops);
      back = All-push (HaveComeBack c.take_back.new.self.lines c.take_back.new.self.directory) c.loop-loops.yielded c.in-Some.loops
          (all-back c.loop-loops.operator c.take_back.new.self c.loop-loops.yielded c.take_back.ensures.only.on c.loop-loops.invariant.back) (record { taken = c.take_back.ensures.taken; causes = c.note_ends-ends.ensures.causes });
    }

pub returns : goal.returns
returns g c =
    let ending = YieldsList-end (YieldsList-from_vec {s = c.into_iter-loops-iterator.result} c.args.silos.items c.into_iter-loops-iterator.ensures.into_iter_gives.0 (first_of (search rules, grind (arith, common_steps)))) c.loop-loops.yielded c.loop-loops.loops-iterator c.loop-loops.yielded_by c.next.result c.next.new.self c.in-None.is c.next.ensures.steps in
    let whole = sym (map-id c.loop-loops.yielded) ∙ ending.0 in
    record {
      only = c.loop-loops.invariant.only;
      ends = c.loop-loops.invariant.ends ∙ ap (λ (ss : List SiloView). all_noted c.args.ends ss) whole;
      back = subst (λ (ss : List SiloView). AllByRecursion (HaveComeBack c.loop-loops.operator.lines c.loop-loops.operator.directory) ss) whole c.loop-loops.invariant.back;
    }
