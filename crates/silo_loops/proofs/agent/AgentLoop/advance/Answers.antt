use Rattle.silo_loops.proofs.Prelude.{None}
use Rattle.silo_loops.specs.Agents.{agent_of}
use Rattle.silo_loops.proofs.Advancing.{agent-beside}
use Rattle.silo_loops.proofs.Causes.{agent-cause}
use Rattle.silo_loops.proofs.agent.AgentLoop.advance.Goals as goal

pub invariant_of-self : goal.invariant_of-self
invariant_of-self g c = rw c.over-self-inside.ensures (agent-cause None _ (agent_of c.self.inside.agent c.self.inside.rounds None) _ tt c.go_on-did.ensures)

pub returns-in-None-clause-beside : goal.returns-in-None-clause-beside
returns-in-None-clause-beside g c = rw (← c.self.view_is) (agent-beside None _ (agent_of c.self.inside.agent c.self.inside.rounds None) _ c.go_on-did.ensures)
