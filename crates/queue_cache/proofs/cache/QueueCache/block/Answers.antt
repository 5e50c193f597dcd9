use Rattle.std.proofs.Common.{◌∙◌, sym, []}
use Rattle.std.proofs.lemmas.Option.{get_or_from_slice_get}
use Rattle.queue_cache.proofs.RingLemmas.{block_in}
use Rattle.queue_cache.proofs.cache.QueueCache.block.Goals as goal

pub returns : goal.returns
returns c =
    let blocks = c.self.inside.ring.items in
    let index = c.args.index in
    let some = rw c.unwrap.ensures at c.get.ensures in
    let within = rw (← c.self.view_is) at c.requires in
    rw (← c.self.view_is)
    (sym (get_or_from_slice_get blocks index c.unwrap.result.now [] (sym some)) ∙ block_in blocks _ _ _ c.self.invariant index within)
