use Rattle.step_core.proofs.Prelude.{◌∙◌, ap, sym}
use Rattle.std.proofs.Common.{unwrap_or}
use Rattle.stream_ident.specs.declared.ident.SubName.TheVariants as name
use Rattle.step_core.proofs.PlanOps.{slowest-name-is}
use Rattle.step_core.proofs.pulling.slowest.Goals as goal

pub returns : goal.returns
returns c =
    c.unwrap_or.ensures ∙ ap (λ o. unwrap_or o (name.Explicit 0)) (c.slowest.ensures ∙ sym (slowest-name-is c.args.parts.now))
