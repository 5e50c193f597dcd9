use Rattle.partition_reference.proofs.Prelude.{length, arith, ap, same_sub, place_of-within, place_of-read}
use Rattle.partition_reference.proofs.records.sub_in.Goals as goal

pub index-requires : goal.index-requires
index-requires c =
    omega (arith, place_of-within same_sub c.args.name.now c.args.place c.args.subs.now c.requires, ap length c.subs.view_is, c.subs.inside.items.ok.0)

pub returns : goal.returns
returns c =
    place_of-read same_sub c.args.name.now c.args.place c.subs.inside.items.items c.args.subs.now c.index.result.now c.subs.view_is c.index.ensures c.requires
