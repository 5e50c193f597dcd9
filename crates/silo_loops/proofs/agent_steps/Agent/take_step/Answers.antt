use Rattle.silo_loops.proofs.Prelude.{None, subst}
use Rattle.silo_loops.specs.Agents.{AgentCalls, AgentState, agent_of}
use Rattle.silo_loops.proofs.Advancing.{agent-steps}
use Rattle.silo_loops.proofs.agent_steps.Agent.take_step.Goals as goal

pub returns : goal.returns
returns g c = λ was rounds counted counts.
    agent-steps c.ask-over.new.self {counted = counted} _ c.told.ensures counts
    (subst (λ (a : AgentState). AgentCalls (agent_of (record a { held = was }) rounds None) (agent_of c.ask-over.new.self counted c.ask-over.result)) c.keep_here.ensures (c.ask-over.ensures was rounds counted))
