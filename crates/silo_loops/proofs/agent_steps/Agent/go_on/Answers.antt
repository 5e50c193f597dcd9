use Rattle.silo_loops.proofs.Prelude.{inl, refl}
use Rattle.silo_loops.proofs.agent_steps.Agent.go_on.Goals as goal

pub returns-in-Some : goal.returns-in-Some
returns-in-Some g c = rw (← c.self.view_is) (c.take_step.ensures c.self.inside.held.items c.args.rounds.now c.args.rounds.now (inl refl))

pub returns-in-None : goal.returns-in-None
returns-in-None g c = rw (← c.self.view_is) (c.end_round.ensures c.self.inside.held.items)
