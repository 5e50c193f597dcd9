use Rattle.pulling_agent.proofs.Prelude.{◌≡◌}
use Rattle.pulling_agent.specs.Agent.{without_blocks}
use Rattle.pulling_agent.proofs.agent.drop_blocks.Given as goal

abbrev pub invariant-loop : goal.invariant-loop
invariant-loop l = l.cache ≡ without_blocks l.counter l.fn.cache
