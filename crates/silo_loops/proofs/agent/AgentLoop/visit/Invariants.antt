use Rattle.silo_loops.specs.Agents.{AgentAdvances}
use Rattle.silo_loops.specs.Chains.{Visits}
use Rattle.silo_loops.proofs.agent.AgentLoop.visit.Given as goal

abbrev pub invariant-loop : goal.invariant-loop
invariant-loop g l = Visits AgentAdvances l.did l.fn.self l.self
