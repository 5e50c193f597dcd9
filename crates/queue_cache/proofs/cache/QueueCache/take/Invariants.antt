use Rattle.std.proofs.Common.{◌≡◌, take}
use Rattle.queue_cache.specs.Cache.{with_events}
use Rattle.queue_cache.proofs.cache.QueueCache.take.Given as goal

abbrev pub invariant-loop-place : goal.invariant-loop-place
invariant-loop-place l = l.self ≡ with_events l.initial.self (take l.place l.events)
