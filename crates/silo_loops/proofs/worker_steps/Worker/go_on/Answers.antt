use Rattle.silo_loops.proofs.Prelude.{inl, refl}
use Rattle.silo_loops.proofs.Advancing.{goes-on}
use Rattle.silo_loops.proofs.worker_steps.Worker.go_on.Goals as goal

pub returns-in_default : goal.returns-in_default
returns-in_default g c = goes-on g.G.Gate.follows c.args.self.now c.step-over.new.self _ c.told.ensures (c.step-over.ensures c.args.rounds.now c.args.rounds.now) (inl refl)
