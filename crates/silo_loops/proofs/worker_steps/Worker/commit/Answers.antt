use Rattle.silo_loops.proofs.Prelude.{arith, rules}
use Rattle.silo_loops.proofs.Stepping.{committed, committed-at, within}
use Rattle.silo_loops.proofs.worker_steps.Worker.commit.Goals as goal

pub hear_at-answer-requires-clause-here : goal.hear_at-answer-requires-clause-here
hear_at-answer-requires-clause-here g c = let h = within c.self.invariant.0 in search (rules, h)

pub invariant_of-self : goal.invariant_of-self
invariant_of-self g c =
    (committed-at c.self.view_is c.after_commit.new.self.at c.after_commit.new.self.step c.requires.step c.self.invariant.0 c.hear_at-answer.ensures.heard c.after_commit.ensures.at c.after_commit.ensures.step, omega (arith, c.hear_at-answer.ensures.room, c.self.invariant.1))

pub returns : goal.returns
returns g c = committed c.self.view_is c.after_commit.new.self.at c.after_commit.new.self.step c.requires.step c.requires.handled c.self.invariant.0 c.hear_at-answer.ensures.heard c.after_commit.ensures.at c.after_commit.ensures.step c.end.ensures
