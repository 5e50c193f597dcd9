use Rattle.partition_reference.proofs.Prelude.{sym, ◌∙◌, same_grain, place_of-within, without}
use Rattle.stream_model.proofs.ChangedValues.{place_of-changed, place_of-unchanged}
use Rattle.partition_reference.proofs.unsubscribing.drop_deliveries.Goals as goal

pub returns-in_default : goal.returns-in_default
returns-in_default c =
    place_of-unchanged same_grain c.args.id.now (without c.args.sub.now) c.args.grains.now (sym c.place_of_grain.ensures ∙ c.in_default.is)

pub drop_deliveries_at-requires : goal.drop_deliveries_at-requires
drop_deliveries_at-requires c = place_of-within same_grain c.args.id.now c.in-Some.at c.args.grains.now (sym c.place_of_grain.ensures ∙ c.in-Some.is)

pub returns : goal.returns
returns c =
    c.drop_deliveries_at.ensures
    ∙ place_of-changed same_grain c.args.id.now (without c.args.sub.now) c.in-Some.at c.args.grains.now (sym c.place_of_grain.ensures ∙ c.in-Some.is)
