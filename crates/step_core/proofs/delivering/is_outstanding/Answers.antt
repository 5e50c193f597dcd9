use Rattle.step_core.proofs.Prelude.{holds, is_unacknowledged, ◌≡◌, ◌∙◌, ap, sym, false, same_grain, place_of-within, name_at}
use Rattle.stream_model.specs.Positions as plain
use Rattle.step_core.specs.Records.{record_of}
use Rattle.step_core.proofs.HandOps.{Stands, outstanding-held, outstanding-nowhere}
use Rattle.step_core.proofs.delivering.is_outstanding.Goals as goal

pub at-requires : goal.at-requires
at-requires c =
    place_of-within same_grain (record_of c.args.parts.now c.args.number).grain c.in-Some.grain c.args.parts.now.grains (c.requires.grain ∙ c.in-Some.is)

pub returns-in-Some : goal.returns-in-Some
returns-in-Some c =
    let parts = c.args.parts.now in
    let stands : Stands parts c.args.number = record { agrees = c.requires.agrees; within = c.requires.number } in
    let acknowledged : plain.is_unacknowledged (record_of parts c.args.number) ≡ false = ap is_unacknowledged (sym c.state.ensures) ∙ (sym c.is_unacknowledged.ensures ∙ c.if-is_unacknowledged.false) in
    c.holds.ensures ∙ (ap (holds c.args.number) c.at.ensures.activation ∙ sym (outstanding-held parts c.args.number c.in-Some.grain stands acknowledged (c.requires.grain ∙ c.in-Some.is)))

pub returns-in-None : goal.returns-in-None
returns-in-None c =
    let parts = c.args.parts.now in
    let acknowledged : plain.is_unacknowledged (record_of parts c.args.number) ≡ false = ap is_unacknowledged (sym c.state.ensures) ∙ (sym c.is_unacknowledged.ensures ∙ c.if-is_unacknowledged.false) in
    sym (outstanding-nowhere parts c.args.number (name_at parts.subs c.args.number) acknowledged (c.requires.grain ∙ c.in-None.is))
