use Rattle.partition_reference.proofs.Prelude.{Some, None, sym, ◌∙◌, quiet-told}
use Rattle.partition_reference.proofs.looking.quiet.Goals as goal

pub returns-in-Some : goal.returns-in-Some
returns-in-Some c = quiet-told c.args.p.now (Some c.in-Some.why) (sym c.in-Some.is ∙ c.pending.ensures)

pub returns-in-None : goal.returns-in-None
returns-in-None c = quiet-told c.args.p.now None (sym c.in-None.is ∙ c.pending.ensures)
