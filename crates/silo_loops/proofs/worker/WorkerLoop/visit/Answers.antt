use Rattle.silo_loops.proofs.Prelude.{ap, subst, sym, ◌∙◌}
use Rattle.silo_loops.specs.Chains.{Stays, Steps, Visits}
use Rattle.silo_loops.specs.Walks.{WorkerState}
use Rattle.silo_loops.specs.Workers.{WorkerAdvances, WorkerView, worker_of}
use Rattle.silo_loops.proofs.Running.{worker-stays, chain-on, visited}
use Rattle.silo_loops.proofs.worker.WorkerLoop.visit.Goals as goal

pub loop-init : goal.loop-init
loop-init g c = (
  _,
  Stays,
  subst (λ (v : WorkerView). WorkerAdvances g.G.Gate.follows c.take_held_step-did.result v c.take_held_step-did.new.self)
      (ap (λ (w : WorkerState). worker_of w c.self.inside.rounds c.self.inside.over) c.keep-at.ensures ∙ c.self.view_is) c.take_held_step-did.ensures,
)

pub loop-preserved : goal.loop-preserved
loop-preserved g c =
    let was = c.loop.invariant in
    (c.loop.self, chain-on _ _ _ _ was.1 (Steps (subst (λ did. WorkerAdvances g.G.Gate.follows did was.0 c.loop.self) c.in-Did.is was.2) Stays), c.take_held_step-did-in-loop.ensures)

pub returns-clause-steps : goal.returns-clause-steps
returns-clause-steps g c =
    subst (λ (w : WorkerView). Visits (WorkerAdvances g.G.Gate.follows) c.loop.did c.args.self.now w)
    (sym (ap (λ (w : WorkerState). worker_of w c.self-2.inside.rounds c.self-2.inside.over) c.end_visit.ensures ∙ c.self-2.view_is)) c.loop.invariant

pub returns-clause-beside : goal.returns-clause-beside
returns-clause-beside g c =
    let steps = returns-clause-steps g c in worker-stays _ _ (visited (WorkerAdvances g.G.Gate.follows) _ _ _ _ steps.1 steps.2)
