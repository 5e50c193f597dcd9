use Rattle.silo_loops.proofs.Prelude.{ap, subst, sym, ◌∙◌}
use Rattle.silo_loops.specs.Walks.{WorkerState}
use Rattle.silo_loops.specs.Workers.{WorkerAdvances, WorkerView, worker_of}
use Rattle.silo_loops.proofs.Advancing.{worker-beside}
use Rattle.silo_loops.proofs.worker.WorkerLoop.advance.Goals as goal

pub returns-clause-advances : goal.returns-clause-advances
returns-clause-advances g c =
    subst (λ (w : WorkerView). WorkerAdvances g.G.Gate.follows c.take_step-did.result c.args.self.now w)
    (sym (ap (λ (w : WorkerState). worker_of w c.self.inside.rounds c.self.inside.over) c.tell_done.ensures ∙ c.self.view_is)) c.take_step-did.ensures

pub returns-clause-beside : goal.returns-clause-beside
returns-clause-beside g c = worker-beside g.G.Gate.follows _ _ _ _ (returns-clause-advances g c)
