use Rattle.silo_loops.proofs.Prelude.{◌<◌, length, sym, subst}
use Rattle.silo_loops.specs.Walks.{WorkerState}
use Rattle.silo_loops.proofs.Stepping.{handled, handled-at}
use Rattle.silo_loops.proofs.worker_steps.Worker.handle.Goals as goal

pub invariant_of-self : goal.invariant_of-self
invariant_of-self g c = (handled-at c.self.view_is c.requires.step c.self.invariant.0, c.self.invariant.1)

pub returns : goal.returns
returns g c =
    handled c.self.view_is {follows = g.G.Gate.follows} c.requires.step (subst (λ (w : WorkerState). c.args.turn.now.next < length w.events) (sym c.self.view_is) c.requires.next) c.index.ensures c.handle_for-note.ensures c.self.invariant.0
