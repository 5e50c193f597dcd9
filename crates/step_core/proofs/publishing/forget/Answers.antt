use Rattle.step_core.proofs.Prelude.{forgotten, ◌∙◌, sym, same_grain}
use Rattle.stream_model.proofs.ChangedValues.{place_of-changed, place_of-unchanged}
use Rattle.step_core.proofs.publishing.forget.Goals as goal

pub returns-in-Some : goal.returns-in-Some
returns-in-Some c =
    c.forget.ensures ∙ place_of-changed same_grain c.args.grain.now (forgotten c.args.number) c.in-Some.at c.args.grains.now (sym c.in-Some.ensures.number)

pub returns-in_default : goal.returns-in_default
returns-in_default c =
    place_of-unchanged same_grain c.args.grain.now (forgotten c.args.number) c.args.grains.now (sym c.in_default.ensures.number)
