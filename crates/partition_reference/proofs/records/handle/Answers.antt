use Rattle.partition_reference.proofs.Prelude.{◌++◌, ap, ◌∙◌, change_at-written, handled_also, Subscription}
use Rattle.partition_reference.proofs.records.handle.Goals as goal

pub returns : goal.returns
returns c =
    let r = c.index_mut.result.now.1 in
    let added = c.in_ok-extend_from_slice.ensures.items ∙ ap (λ xs. xs ++ c.args.positions.now) c.handled.view_is in
    change_at-written (handled_also c.args.positions.now c.args.note) c.args.place c.subs.inside.items.items c.args.subs.now c.index_mut.result.now _ c.subs.view_is c.index_mut.ensures.value c.requires
    (ap {B = Subscription} (λ items. record r { handled = items; note = c.args.note }) added)
