use Rattle.std.proofs.Common.{◌≡◌, [], ◌++◌, replicate, drop}
use Rattle.circular_buffer.specs.Buffer.{buffer}
use Rattle.queue_cache.proofs.cache.clear_blocks.Given as goal

abbrev pub invariant-loop-index : goal.invariant-loop-index
invariant-loop-index l = l.ring ≡ buffer (replicate l.index [] ++ drop l.index l.initial.ring.items) l.initial.ring.capacity
