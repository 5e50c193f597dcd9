use Rattle.silo_loops.specs.Agents.{AgentRuns}
use Rattle.silo_loops.proofs.agent.AgentLoop.run.Given as goal

abbrev pub invariant-loop : goal.invariant-loop
invariant-loop g l = AgentRuns l.fn.self l.this
