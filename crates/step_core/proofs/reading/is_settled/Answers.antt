use Rattle.step_core.proofs.Prelude.{◌∙◌, sym, ap}
use Rattle.step_core.specs.PlainOf.{plain_of}
use Rattle.step_core.specs.Serving.{is_settled_in}
use Rattle.step_core.proofs.ReadLemmas.{found-none, found-sub}
use Rattle.step_core.proofs.reading.is_settled.Goals as goal

pub returns-in-Some : goal.returns-in-Some
returns-in-Some c =
    let parts = c.args.parts.now in
    rw (c.is_settled_state.ensures, c.high.ensures, c.cache.ensures, c.state.ensures)
    (sym (ap (is_settled_in (plain_of parts).high) (found-sub parts c.args.sub.now c.in-Some.number c.requires.records (sym c.find.ensures.number ∙ c.in-Some.is))))

pub returns-in-None : goal.returns-in-None
returns-in-None c =
    let parts = c.args.parts.now in
    sym (ap (is_settled_in (plain_of parts).high) (found-none parts c.args.sub.now c.requires.records (sym c.find.ensures.number ∙ c.in-None.is)))
