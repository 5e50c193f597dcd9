use Rattle.partition_reference.proofs.Prelude.{ap, filter, not, ◌∙◌, same_sub, change_at-written, without, Grain}
use Rattle.partition_reference.proofs.unsubscribing.drop_deliveries_at.Goals as goal

pub returns : goal.returns
returns c =
    let st = c.index_mut.result.now.1 in
    let left = c.keep_others.ensures ∙ ap (filter (λ d. not (same_sub c.args.sub.now d.sub))) c.mailbox.view_is in
    change_at-written (without c.args.sub.now) c.args.at c.grains.inside.items.items c.args.grains.now c.index_mut.result.now _ c.grains.view_is c.index_mut.ensures.value c.requires
    (ap {B = Grain} (λ items. record st { mailbox = items }) left)
