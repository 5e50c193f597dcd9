use Rattle.step_core.proofs.Prelude.{◌∙◌, arith}
use Rattle.step_core.proofs.PendingOps.{waits-all}
use Rattle.step_core.proofs.looking.all_waiting.Goals as goal

pub returns : goal.returns
returns c =
    c.loop-number.invariant.count ∙ waits-all c.args.parts.now c.loop-number.number (omega (arith, c.loop-number-test.false, c.len-number-end.ensures.count))
