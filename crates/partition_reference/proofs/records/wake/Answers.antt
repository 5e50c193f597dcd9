use Rattle.partition_reference.proofs.Prelude.{is_ok, change_at-tried, woken}
use Rattle.partition_reference.proofs.records.wake.Goals as goal

pub returns : goal.returns
returns c =
    change_at-tried (λ st. woken st c.args.sub c.args.position) (is_ok c.wake_grain.result) c.args.place c.grains.inside.items.items c.args.grains.now c.index_mut.result.now _ c.grains.view_is c.index_mut.ensures.value c.requires.within c.wake_grain.ensures
