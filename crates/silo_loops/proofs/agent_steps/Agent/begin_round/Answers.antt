use Rattle.silo_loops.proofs.Prelude.{◌-◌, List, None, arith, inr, subst, rules, common_steps}
use Rattle.silo_loops.specs.Agents.{AgentAdvancesFrom, agent_of}
use Rattle.silo_loops.specs.Answers.{over_of}
use Rattle.silo_loops.specs.Lines.{LineView}
use Rattle.silo_loops.proofs.agent_steps.Agent.begin_round.Goals as goal

pub returns : goal.returns
returns g c =
    λ was.
    subst (λ (lines : List LineView). AgentAdvancesFrom None c.take_step.result (record { lines = lines; held = was; rounds = c.args.rounds.now; over = None }) (agent_of c.take_step.new.self (c.args.rounds.now - 1) (over_of c.take_step.result)))
    c.begin_at-first.ensures.lines (c.take_step.ensures was c.args.rounds.now (c.args.rounds.now - 1) (inr (first_of (omega (arith, c.if-rounds-eq0.false), search rules, grind (arith, common_steps)))))
