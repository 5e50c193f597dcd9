use Rattle.partition_reference.proofs.Prelude.{◌≡◌, ◌++◌, take, events_of}
use Rattle.partition_reference.proofs.publishing.push_events.Given as goal

abbrev pub invariant-loop-idx : goal.invariant-loop-idx
invariant-loop-idx l = l.log.items ≡ l.initial.log.items ++ events_of l.stream l.seq 0 (take l.idx l.payloads)
