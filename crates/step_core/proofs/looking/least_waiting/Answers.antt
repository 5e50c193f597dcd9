use Rattle.step_core.proofs.Prelude.{◌∙◌, sym}
use Rattle.step_core.proofs.LookOps.{waiting-is}
use Rattle.step_core.proofs.looking.least_waiting.Goals as goal

pub returns : goal.returns
returns c = c.least_waiting.ensures ∙ sym (waiting-is c.args.parts.now)
