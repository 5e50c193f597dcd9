use Rattle.partition_reference.proofs.Prelude.{drop, change_at-written, Grain}
use Rattle.partition_reference.proofs.records.drop_delivery.Goals as goal

pub returns : goal.returns
returns c =
    change_at-written (λ (st : Grain). record st { mailbox = drop 1 st.mailbox }) c.args.place c.grains.inside.items.items c.args.grains.now c.index_mut.result.now _ c.grains.view_is c.index_mut.ensures.value c.requires (cc)
