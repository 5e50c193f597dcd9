use Rattle.silo_loops.proofs.Prelude.{ap, arith, subst, sym, ◌∙◌, rules, common_steps}
use Rattle.silo_loops.specs.Walks.{IsFree, WorkerState}
use Rattle.silo_loops.proofs.Working.{free-at}
use Rattle.silo_loops.proofs.worker_steps.Worker.begin_at.Goals as goal

pub invariant_of-self : goal.invariant_of-self
invariant_of-self g c = (
  free-at c.begin.new.self.at c.self.inside.lines.items (first_of (omega (arith, c.begin.ensures.at, c.len-queues.ensures), search rules, grind (arith, common_steps)))
      (subst IsFree (sym (c.begin.ensures.step ∙ ap (λ (w : WorkerState). w.step) c.self.view_is)) c.requires) c.self.invariant.0.line,
  c.self.invariant.1,
)

pub invariant_of-self-else-self : goal.invariant_of-self-else-self
invariant_of-self-else-self g c = (
  free-at c.begin-else-self.new.self.at c.self.inside.lines.items (first_of (omega (arith, c.begin-else-self.ensures.at, c.len-queues.ensures), search rules, grind (arith, common_steps)))
      (subst IsFree (sym (c.begin-else-self.ensures.step ∙ ap (λ (w : WorkerState). w.step) c.self.view_is)) c.requires) c.self.invariant.0.line,
  c.self.invariant.1,
)
