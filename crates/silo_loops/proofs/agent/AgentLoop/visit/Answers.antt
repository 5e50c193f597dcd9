use Rattle.silo_loops.proofs.Prelude.{ap, subst, sym, ◌∙◌}
use Rattle.silo_loops.specs.Agents.{AgentAdvances, AgentState, AgentView, agent_of}
use Rattle.silo_loops.specs.Chains.{Stays, Steps, Visits}
use Rattle.silo_loops.proofs.Running.{agent-stays, chain-on, visited}
use Rattle.silo_loops.proofs.agent.AgentLoop.visit.Goals as goal

pub loop-init : goal.loop-init
loop-init g c = (
  _,
  Stays,
  subst (λ (v : AgentView). AgentAdvances c.advance-did.result v c.advance-did.new.self) (ap (λ (a : AgentState). agent_of a c.self.inside.rounds c.self.inside.over) c.keep.ensures ∙ c.self.view_is)
      c.advance-did.ensures.advances,
)

pub loop-preserved : goal.loop-preserved
loop-preserved g c =
    let was = c.loop.invariant in
    (c.loop.self, chain-on _ _ _ _ was.1 (Steps (subst (λ did. AgentAdvances did was.0 c.loop.self) c.in-Did.is was.2) Stays), c.advance-did-in-loop.ensures.advances)

pub returns-clause-steps : goal.returns-clause-steps
returns-clause-steps g c =
    subst (λ (w : AgentView). Visits AgentAdvances c.loop.did c.args.self.now w)
    (sym (ap (λ (a : AgentState). agent_of a c.self-2.inside.rounds c.self-2.inside.over) c.leave.ensures ∙ c.self-2.view_is)) c.loop.invariant

pub returns-clause-beside : goal.returns-clause-beside
returns-clause-beside g c = let steps = returns-clause-steps g c in agent-stays _ _ (visited AgentAdvances _ _ _ _ steps.1 steps.2)
