use Rattle.step_core.proofs.Prelude.{◌≡◌, take, events_at}
use Rattle.step_core.proofs.reading.events_at.Given as goal

abbrev pub invariant-loop-position : goal.invariant-loop-position
invariant-loop-position l = l.events.items ≡ events_at l.queue.events (take l.position-index l.positions)
