use Rattle.step_core.proofs.Prelude.{high, ap, arith}
use Rattle.step_core.proofs.CatchRuns.{runs-caught}
use Rattle.step_core.proofs.HandOps.{high-few}
use Rattle.step_core.proofs.serving.catch_up_from.Goals as goal

pub catch_up_from-requires-clause-high : goal.catch_up_from-requires-clause-high
catch_up_from-requires-clause-high c = omega (arith, high-few c.args.parts.now c.requires.agrees, ap high c.cache.ensures)

pub returns : goal.returns
returns c =
    let caught =
    runs-caught c.args.parts.now c.catch_up_from.new.self c.args.number c.cache.result.now c.catch_up_from.result c.requires.agrees (c.is_idle.ensures.0 c.if-not-is_idle.false) c.cache.ensures c.catch_up_from.ensures in
    record { agrees = caught.agrees; within = caught.within; told = caught.told }
