use Rattle.silo_loops.proofs.Prelude.{◌-◌, arith, rules, common_steps}
use Rattle.silo_loops.proofs.Advancing.{round-begun, round-idle}
use Rattle.silo_loops.proofs.worker_steps.Worker.begin_round.Goals as goal

pub returns-then-is_done : goal.returns-then-is_done
returns-then-is_done g c = round-idle g.G.Gate.follows c.args.self.now c.args.rounds.now c.requires (c.is_done.ensures c.if-is_done.true) c.rest.ensures

pub returns : goal.returns
returns g c =
    round-begun g.G.Gate.follows c.args.self.now c.args.rounds.now c.requires c.look-over.new.self {counted = c.args.rounds.now - 1} c.look-over.result c.begin_at.ensures
    (first_of (omega (arith, c.if-rounds-eq0.false), search rules, grind (arith, common_steps))) c.told-2.ensures c.look-over.ensures
