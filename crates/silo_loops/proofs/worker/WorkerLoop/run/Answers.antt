use Rattle.silo_loops.proofs.Prelude.{ap, subst, sym, ◌∙◌}
use Rattle.silo_loops.specs.Walks.{WorkerState}
use Rattle.silo_loops.specs.Workers.{WorkerRuns, WorkerView, worker_of}
use Rattle.silo_loops.specs.Chains.{Stays}
use Rattle.silo_loops.proofs.Running.{chain-on}
use Rattle.silo_loops.proofs.worker.WorkerLoop.run.Goals as goal
use Rattle.silo_loops.proofs.worker.WorkerLoop.run.Goals.{in-None, in-Some+then-not-go}

pub loop-init : goal.loop-init
loop-init g c =
    subst (λ (x : WorkerView). WorkerRuns g.G.Gate.follows c.args.self x)
    (sym (ap (λ (w : WorkerState). worker_of w c.this.inside.rounds c.this.inside.over) c.go_by_hints.ensures ∙ c.this.view_is)) Stays

pub loop-preserved : goal.loop-preserved
loop-preserved g c = chain-on _ _ _ _ c.loop.invariant c.go.ensures

pub returns : goal.returns
returns g c =
    elim c.match-next.branch as (λ w. WorkerRuns g.G.Gate.follows c.args.self c.match-next.this) [
      | in-None w ↦ subst (λ (x : WorkerView). WorkerRuns g.G.Gate.follows c.args.self x) (sym w.this-is) c.loop.invariant
      | in-Some+then-not-go w ↦ subst (λ (x : WorkerView). WorkerRuns g.G.Gate.follows c.args.self x) (sym w.this-is) (chain-on _ _ _ _ c.loop.invariant w.go.ensures)
    ]
