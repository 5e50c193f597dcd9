use Rattle.step_core.proofs.Prelude.{◌∙◌, sym}
use Rattle.step_core.proofs.LookOps.{running-is}
use Rattle.step_core.proofs.looking.least_running.Goals as goal

pub returns : goal.returns
returns c = c.least_running.ensures ∙ sym (running-is c.args.parts.now)
