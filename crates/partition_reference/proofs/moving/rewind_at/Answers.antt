use Rattle.partition_reference.proofs.Prelude.{ap, change_at-written, rewound_where, Subscription}
use Rattle.partition_reference.proofs.moving.rewind_at.Goals as goal

pub returns : goal.returns
returns c =
    let r = c.index_mut.result.now.1 in
    change_at-written (λ (r : Subscription). rewound_where r.is_open r) c.args.place c.subs.inside.items.items c.args.subs.now c.index_mut.result.now _ c.subs.view_is c.index_mut.ensures.value c.requires
    (ap {B = Subscription} (λ cursor. record r { cursor = cursor }) c.first_cursor-cursor.ensures)
