use Rattle.partition_reference.proofs.Prelude.{[], None, ap, false, change_at-written, Grain}
use Rattle.partition_reference.proofs.deactivating.leave.Goals as goal

pub returns : goal.returns
returns c =
    let st = c.index_mut.result.now.1 in
    change_at-written (λ (st : Grain). record st { active = false; mailbox = []; running = None }) c.args.at c.grains.inside.items.items c.args.grains.now c.index_mut.result.now _ c.grains.view_is c.index_mut.ensures.value c.requires
    (ap {B = Grain} (λ items. record st { active = false; mailbox = items; running = None }) c.clear.ensures.items)
