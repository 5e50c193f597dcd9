use Rattle.silo_threads.proofs.Prelude.{HasRun, SiloView, [], List, refl, subst, sym, ◌++◌, ◌∷◌, AllZip-push, AllZip}
use Rattle.silo_operators.proofs.Spreading.{only-refl}
use Rattle.silo_threads.specs.Clusters.{HaveEnded, RunsOn}
use Rattle.silo_threads.proofs.Standing.{ended-push, only-trans, same-at, sits-on}
use Rattle.silo_threads.proofs.changes.stop_all.Goals as goal

pub take_back-requires-after_bounds : goal.take_back-requires-after_bounds
take_back-requires-after_bounds g c κs within =
    let runs = subst (λ (ss : List SiloView). RunsOn c.loop-silo.operator ss) c.in-Some.ensures.steps.0 c.loop-silo.invariant.runs in
    same-at c.loop-silo.operator.lines c.loop-silo.operator.directory c.in-Some.silo c.stop-loops.result runs.0 c.stop-loops.ensures

pub loop-silo-init : goal.loop-silo-init
loop-silo-init g c =
    record {
      only = only-refl c.args.operator.now;
      runs = subst (λ (ss : List SiloView). RunsOn c.args.operator.now ss) (sym c.into_iter-silo-iterator.ensures.into_iter_gives.0) c.requires;
      ran = tt;
      ends = (refl, tt);
    }

pub loop-silo-preserved : goal.loop-silo-preserved
loop-silo-preserved g c =
    let runs = subst (λ (ss : List SiloView). RunsOn c.loop-silo.operator ss) c.in-Some.ensures.steps.0 c.loop-silo.invariant.runs in
    record {
      only = only-trans c.args.operator.now c.loop-silo.operator c.take_back.new.self c.loop-silo.invariant.only c.take_back.ensures.only;
      runs = sits-on c.loop-silo.operator c.take_back.new.self _ c.take_back.ensures.only.on runs.1;
      ran = subst (λ (back : List SiloView). AllZip HasRun (c.loop-silo.yielded ++ c.in-Some.silo ∷ []) back) (sym c.add.ensures)
          (AllZip-push HasRun c.loop-silo.yielded _ c.in-Some.silo c.stop-loops.result c.loop-silo.invariant.ran c.stop-loops.ensures);
      ends = subst (λ (back : List SiloView). HaveEnded c.args.ends back c.take_back.new.self.lines c.take_back.new.self.directory c.note_ends-ends.result) (sym c.add.ensures)
          (ended-push c.loop-silo.operator c.take_back.new.self c.args.ends c.loop-silo.ends c.note_ends-ends.result _ c.stop-loops.result c.take_back.ensures.only.on c.loop-silo.invariant.ends c.note_ends-ends.ensures.noted
          (record { taken = c.take_back.ensures.taken; causes = c.note_ends-ends.ensures.causes }));
    }
