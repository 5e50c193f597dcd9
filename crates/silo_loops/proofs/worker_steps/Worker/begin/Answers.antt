use Rattle.silo_loops.proofs.Prelude.{arith, rules}
use Rattle.silo_loops.proofs.Stepping.{begun, begun-at, within}
use Rattle.silo_loops.proofs.worker_steps.Worker.begin.Goals as goal

pub hear_at-answer-requires-clause-here : goal.hear_at-answer-requires-clause-here
hear_at-answer-requires-clause-here g c = let h = within c.self.invariant.0 in search (rules, h)

pub invariant_of-self : goal.invariant_of-self
invariant_of-self g c =
    (begun-at c.self.view_is c.after_begin.new.self.at c.after_begin.new.self.step c.requires c.self.invariant.0 c.hear_at-answer.ensures.heard c.after_begin.ensures.at c.after_begin.ensures.step, omega (arith, c.hear_at-answer.ensures.room, c.self.invariant.1))

pub returns : goal.returns
returns g c = begun c.self.view_is c.after_begin.new.self.at c.after_begin.new.self.step c.requires c.self.invariant.0 c.self.invariant.1 c.hear_at-answer.ensures.heard c.after_begin.ensures.at c.after_begin.ensures.step c.end.ensures
