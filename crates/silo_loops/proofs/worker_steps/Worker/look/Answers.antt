use Rattle.silo_loops.proofs.Prelude.{◌<◌, rules, arith, common_steps}
use Rattle.silo_loops.proofs.Stepping.{length-called, looked, within}
use Rattle.silo_loops.proofs.Working.{free-at}
use Rattle.silo_loops.proofs.worker_steps.Worker.look.Goals as goal

pub hear_at-answer-requires-clause-here : goal.hear_at-answer-requires-clause-here
hear_at-answer-requires-clause-here g c = let h = within c.self.invariant.0 in search (rules, h)

pub after_look-requires : goal.after_look-requires
after_look-requires g c =
    let below = within c.self.invariant.0 in
    let same = length-called _ _ _ _ _ _ _ _ c.hear_at-answer.ensures.heard in
    let h : c.self.inside.walk.at < c.len.result = first_of (omega (arith, below, same, c.len.ensures), search rules, grind (arith, common_steps)) in search (rules, h)

pub invariant_of-self : goal.invariant_of-self
invariant_of-self g c =
    (free-at c.after_look.new.self.at c.hear_at-answer.new.lines.items (first_of (omega (arith, c.after_look.ensures.at, c.len.ensures), search rules, grind (arith, common_steps))) c.after_look.ensures.free c.self.invariant.0.line, omega (arith, c.hear_at-answer.ensures.room, c.self.invariant.1))

pub returns : goal.returns
returns g c = looked c.self.view_is c.after_look.new.self.at c.after_look.new.self.step c.requires c.hear_at-answer.ensures.heard c.end.ensures c.after_look.ensures.free
