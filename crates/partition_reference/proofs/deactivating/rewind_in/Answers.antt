use Rattle.partition_reference.proofs.Prelude.{◌&&◌, ap, sym, ◌∙◌, get_or, set, same_grain, SubName, rewound_where, Subscription}
use Rattle.std.proofs.lemmas.List.Edits.{map_over_more}
use Rattle.partition_reference.proofs.deactivating.rewind_in.Goals as goal

pub loop-entry-preserved : goal.loop-entry-preserved
loop-entry-preserved c =
    let subs = c.loop-entry.subs in
    let i = c.loop-entry.entry-index in
    let entry = c.entry-item.result in
    let rewind : SubName × Subscription → SubName × Subscription = λ entry. (entry.0, rewound_where (same_grain c.args.id.now entry.1.grain && entry.1.is_open) entry.1) in
    ap (λ r. set subs i ((get_or subs i entry).0, r)) c.rewind_sub.ensures
    ∙ (ap (λ entry. set subs i (rewind entry)) (sym c.entry-item.is)
    ∙ map_over_more rewind c.args.subs.now subs i entry c.loop-entry-test.true c.loop-entry.invariant c.entry-item.is)
