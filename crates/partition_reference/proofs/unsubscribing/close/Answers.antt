use Rattle.partition_reference.proofs.Prelude.{refl, false, change_at-written, Subscription}
use Rattle.partition_reference.proofs.unsubscribing.close.Goals as goal

pub returns : goal.returns
returns c =
    change_at-written (λ (r : Subscription). record r { is_open = false }) c.args.place c.subs.inside.items.items c.args.subs.now c.index_mut.result.now _ c.subs.view_is c.index_mut.ensures.value c.requires refl
