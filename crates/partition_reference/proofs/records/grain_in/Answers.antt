use Rattle.partition_reference.proofs.Prelude.{length, arith, ap, same_grain, place_of-within, place_of-read}
use Rattle.partition_reference.proofs.records.grain_in.Goals as goal

pub index-requires : goal.index-requires
index-requires c =
    omega (arith, place_of-within same_grain c.args.id.now c.args.place c.args.grains.now c.requires, ap length c.grains.view_is, c.grains.inside.items.ok.0)

pub returns : goal.returns
returns c =
    place_of-read same_grain c.args.id.now c.args.place c.grains.inside.items.items c.args.grains.now c.index.result.now c.grains.view_is c.index.ensures c.requires
