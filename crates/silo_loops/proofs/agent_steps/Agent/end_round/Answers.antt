use Rattle.silo_loops.proofs.Prelude.{refl}
use Rattle.silo_loops.proofs.Advancing.{agent-rests}
use Rattle.silo_loops.proofs.agent_steps.Agent.end_round.Goals as goal

pub returns-then-is_done : goal.returns-then-is_done
returns-then-is_done g c = λ was. agent-rests refl c.rest.ensures (c.is_done.ensures c.if-is_done.true)
