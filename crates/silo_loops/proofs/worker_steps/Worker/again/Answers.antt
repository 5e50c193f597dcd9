use Rattle.silo_loops.proofs.Prelude.{arith, rules}
use Rattle.silo_loops.proofs.Stepping.{again-at, asked-again, within}
use Rattle.silo_loops.proofs.worker_steps.Worker.again.Goals as goal

pub hear_at-answer-requires-clause-here : goal.hear_at-answer-requires-clause-here
hear_at-answer-requires-clause-here g c = let h = within c.self.invariant.0 in search (rules, h)

pub invariant_of-self : goal.invariant_of-self
invariant_of-self g c =
    (again-at c.self.view_is c.after_again.new.self.at c.after_again.new.self.step c.requires c.self.invariant.0 c.hear_at-answer.ensures.heard c.after_again.ensures.at c.after_again.ensures.step, omega (arith, c.hear_at-answer.ensures.room, c.self.invariant.1))

pub returns : goal.returns
returns g c = asked-again c.self.view_is c.after_again.new.self.at c.after_again.new.self.step c.requires c.hear_at-answer.ensures.heard c.end.ensures c.after_again.ensures.step
