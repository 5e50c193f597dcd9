use Rattle.step_core.proofs.Prelude.{Some, None, sym, ◌∙◌}
use Rattle.stream_model.proofs.Looking.{quiet-told}
use Rattle.step_core.specs.PlainOf.{plain_of}
use Rattle.step_core.proofs.looking.quiet.Goals as goal

pub returns-in-Some-clause-reply : goal.returns-in-Some-clause-reply
returns-in-Some-clause-reply c = quiet-told (plain_of c.args.parts.now) (Some c.in-Some.why) (sym c.in-Some.is ∙ c.pending.ensures)

pub returns-in-None-clause-reply : goal.returns-in-None-clause-reply
returns-in-None-clause-reply c = quiet-told (plain_of c.args.parts.now) None (sym c.in-None.is ∙ c.pending.ensures)
