use Rattle.script_runs.proofs.Prelude.{QueuePass, places, callers-on, HasFinished, ◌∙◌, ◌++◌, List, [], ◌∷◌, ap, arith, subst, sym, AllByRecursion, recorded}
use Rattle.silo_threads.specs.Gathering.{AreAt}
use Rattle.script_runs.specs.Scripts.{IsScript}
use Rattle.script_runs.specs.Runs.{LeavesLegalTraces, RunsScript}
use Rattle.script_runs.proofs.Histories.{run-legal}
use Rattle.script_runs.proofs.Reporting.{new-queues, run-ends}
use Rattle.script_runs.proofs.runs.outcome.run.Goals as goal

pub run_script-script-requires-clause-some : goal.run_script-script-requires-clause-some
run_script-script-requires-clause-some g c κs within = omega (arith, c.requires.config.queues.0, new-queues c.args.config.now c.in_ok-cluster.cluster c.in_ok-cluster.caller c.in_ok-cluster.ensures)

pub run_script-script-requires-clause-script : goal.run_script-script-requires-clause-script
run_script-script-requires-clause-script g c κs within =
    subst (λ queues. IsScript queues c.args.lines.items) (sym (new-queues c.args.config.now c.in_ok-cluster.cluster c.in_ok-cluster.caller c.in_ok-cluster.ensures)) c.requires.script

pub finish-ended-requires-after_bounds : goal.finish-ended-requires-after_bounds
finish-ended-requires-after_bounds g c κs within =
    let now = c.run_script-script.new.caller in
    let w = c.run_script-script.new.cluster in
    let all = c.push_reserved.ensures.items ∙ ap (λ (before : List (List QueuePass)). before ++ now ∷ []) c.in_ok-callers.ensures.items in
    let at = c.run_script-script.ensures.turnstiles ∙ c.in_ok-cluster.ensures.opened.beside in
    subst (λ (callers : List (List QueuePass)). AllByRecursion (AreAt (places w.operator.lines)) callers) (sym {A = List (List QueuePass)} all)
    (callers-on c.in_ok-cluster.cluster.operator.lines w.operator.lines (now ∷ []) c.run_script-script.ensures.cluster.lines (at, tt))

pub returns : goal.returns
returns g c =
    let config = c.args.config.now in
    let lines = c.args.lines.items in
    let new = c.in_ok-cluster.ensures in
    let w = c.run_script-script.new.cluster in
    let now = c.run_script-script.new.caller in
    let back = recorded c.in_ok-ended.field-0.loops in
    let finished = c.in_ok-ended.field-0.finished in
    let how = c.in_ok-script.field-0.end in
    let does = c.run_script-script.ensures in
    let all = c.push_reserved.ensures.items ∙ ap (λ (before : List (List QueuePass)). before ++ now ∷ []) c.in_ok-callers.ensures.items in
    let ends = subst (λ (callers : List (List QueuePass)). HasFinished g.H.StoredHistory.entries w callers back finished) all c.in_ok-ended.ensures in
    record {
      script = subst (λ ran. RunsScript g.H.StoredHistory.entries config lines ran) (sym c.conclude.ensures)
          (run-ends g.H.StoredHistory.entries back config lines c.in_ok-cluster.cluster w c.in_ok-cluster.caller now c.in_ok-script.field-0.printed.items finished how c.requires.config new does.turnstiles c.in_ok-script.ensures.script ends);
      ends = record {
        cluster = c.in_ok-cluster.cluster;
        caller = c.in_ok-cluster.caller;
        is_new = new;
        script = c.in_ok-script.field-0;
        later = w;
        now = now;
        on = does.on;
        does = c.in_ok-script.ensures.script;
        back = back;
        finished = finished;
        ends = ends;
        tells = c.conclude.ensures;
      };
      legal = subst (λ ran. LeavesLegalTraces g.H.StoredHistory.entries config ran.end) (sym c.conclude.ensures)
          (run-legal g.H.StoredHistory.entries back config c.in_ok-cluster.cluster w c.in_ok-cluster.caller now finished how new does.cluster.lines ends);
    }
