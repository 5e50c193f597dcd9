use Rattle.silo_loops.specs.Agents.{AgentAdvances}
use Rattle.silo_loops.specs.Chains.{Stays}
use Rattle.silo_loops.proofs.Running.{visited}
use Rattle.silo_loops.proofs.agent.AgentLoop.go.Goals as goal

pub returns-then-load : goal.returns-then-load
returns-then-load g c = Stays

pub returns : goal.returns
returns g c = visited AgentAdvances _ _ _ _ c.visit.ensures.steps.1 c.visit.ensures.steps.2
