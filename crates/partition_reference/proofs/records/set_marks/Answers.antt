use Rattle.partition_reference.proofs.Prelude.{refl, change_at-written, Subscription}
use Rattle.partition_reference.proofs.records.set_marks.Goals as goal

pub returns : goal.returns
returns c =
    change_at-written (λ (r : Subscription). record r { cursor = c.args.cursor; resume = c.args.resume }) c.args.place c.subs.inside.items.items c.args.subs.now c.index_mut.result.now _ c.subs.view_is c.index_mut.ensures.value c.requires refl
