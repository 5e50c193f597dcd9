use Rattle.std.proofs.Common.{◌<◌, ◌∙◌, ap, length, [], set, arith}
use Rattle.circular_buffer.specs.Buffer.{buffer}
use Rattle.queue_cache.proofs.RingLemmas.{set-emptied}
use Rattle.queue_cache.proofs.cache.clear_blocks.Goals as goal

pub loop-index-preserved : goal.loop-index-preserved
loop-index-preserved c =
    let index = c.loop-index.index in
    let start = c.args.ring.now in
    let within : index < length start.items = omega (arith, c.len-index-end.ensures.len) in
    c.clear_block.ensures
    ∙ ap (λ ring. buffer (set ring.items index []) ring.capacity) c.loop-index.invariant
    ∙ ap (λ blocks. buffer blocks start.capacity) (set-emptied start.items index within)
