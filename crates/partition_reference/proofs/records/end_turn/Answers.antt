use Rattle.partition_reference.proofs.Prelude.{refl, None, change_at-written, Grain}
use Rattle.partition_reference.proofs.records.end_turn.Goals as goal

pub returns : goal.returns
returns c =
    change_at-written (λ (st : Grain). record st { running = None }) c.args.place c.grains.inside.items.items c.args.grains.now c.index_mut.result.now _ c.grains.view_is c.index_mut.ensures.value c.requires refl
