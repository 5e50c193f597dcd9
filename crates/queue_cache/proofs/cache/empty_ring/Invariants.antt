use Rattle.std.proofs.Common.{◌≡◌, [], replicate}
use Rattle.circular_buffer.specs.Buffer.{buffer}
use Rattle.queue_cache.proofs.cache.empty_ring.Given as goal

abbrev pub invariant-loop : goal.invariant-loop
invariant-loop l = l.ring ≡ buffer (replicate l.counter []) l.blocks
