use Rattle.partition_reference.proofs.Prelude.{sym, ◌∙◌}
use Rattle.partition_reference.proofs.Handing.{is_outstanding-new}
use Rattle.partition_reference.proofs.delivering.is_outstanding.Goals as goal

pub returns-in_default : goal.returns-in_default
returns-in_default c =
    c.is_unacknowledged.ensures
    ∙ is_outstanding-new c.args.p.now c.args.sub.now c.args.found.now (sym c.place_of_grain.ensures ∙ c.in_default.is)
