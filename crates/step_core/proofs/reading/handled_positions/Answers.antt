use Rattle.step_core.proofs.Prelude.{◌∙◌, ap, sym, subst, ◌<◌, length, AllByRecursion}
use Rattle.step_core.specs.Reads.{positions_by}
use Rattle.step_core.proofs.ReadLemmas.{found-none, found-sub, handled-within}
use Rattle.step_core.proofs.reading.handled_positions.Goals as goal

pub returns-in-Some-clause-positions : goal.returns-in-Some-clause-positions
returns-in-Some-clause-positions c =
    c.as_slice.ensures.positions ∙ ap (λ s. s.handled) c.state.ensures
    ∙ sym (ap positions_by (found-sub c.args.parts.now c.args.sub.now c.in-Some.number c.requires.records (sym c.find.ensures.number ∙ c.in-Some.is)))

pub returns-in-Some-clause-within : goal.returns-in-Some-clause-within
returns-in-Some-clause-within c =
    let parts = c.args.parts.now in
    let own = c.as_slice.ensures.positions ∙ ap (λ s. s.handled) c.state.ensures in
    subst (AllByRecursion (λ position. position < length parts.queue.events)) (sym own)
    (handled-within parts c.args.sub.now c.in-Some.number c.requires.within c.requires.records (sym c.find.ensures.number ∙ c.in-Some.is))

pub returns-in-None-clause-positions : goal.returns-in-None-clause-positions
returns-in-None-clause-positions c =
    sym (ap positions_by (found-none c.args.parts.now c.args.sub.now c.requires.records (sym c.find.ensures.number ∙ c.in-None.is)))
