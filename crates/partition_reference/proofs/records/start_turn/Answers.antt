use Rattle.partition_reference.proofs.Prelude.{change_at-written, started}
use Rattle.partition_reference.proofs.records.start_turn.Goals as goal

pub returns : goal.returns
returns c =
    change_at-written (started c.args.run) c.args.place c.grains.inside.items.items c.args.grains.now c.index_mut.result.now _ c.grains.view_is c.index_mut.ensures.value c.requires (cc)
