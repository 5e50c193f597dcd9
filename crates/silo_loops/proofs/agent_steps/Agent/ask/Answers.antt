use Rattle.silo_loops.proofs.Prelude.{rules, sym, ◌∙◌}
use Rattle.silo_loops.proofs.Stepping.{agent-asked, held-within, length-called}
use Rattle.silo_loops.proofs.Naming.{asks-may, visiting-on}
use Rattle.silo_loops.proofs.agent_steps.Agent.ask.Goals as goal

pub hear_at-answer-requires-clause-here : goal.hear_at-answer-requires-clause-here
hear_at-answer-requires-clause-here g c = let h = held-within c.self.view_is c.requires c.self.invariant.0 in search (rules, h)

pub invariant_of-self : goal.invariant_of-self
invariant_of-self g c = (
  c.self.invariant.0 ∙ sym (length-called _ _ _ _ _ _ _ _ c.hear_at-answer.ensures.heard),
  visiting-on c.args.generation c.self.inside.visit c.after.new.self c.self.inside.lines.items c.hear_at-answer.new.lines.items c.op-op.result _ _ _ _ c.hear_at-answer.ensures.heard c.op-op.ensures.op c.self.invariant.1 c.after.ensures.goes,
)

pub returns : goal.returns
returns g c =
    agent-asked c.self.view_is c.requires c.hear_at-answer.ensures.heard
    (asks-may c.args.generation c.self.inside.visit c.self.inside.lines.items c.hear_at-answer.new.lines.items c.op-op.result _ _ _ _ c.hear_at-answer.ensures.heard c.op-op.ensures.op c.self.invariant.1) c.after.ensures.over
