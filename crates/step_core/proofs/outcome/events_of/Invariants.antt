use Rattle.step_core.proofs.Prelude.{◌≡◌, ◌+◌, ◌++◌, drop, length}
use Rattle.stream_ident.specs.Event.{events_at}
use Rattle.step_core.proofs.outcome.events_of.Given as goal

abbrev pub invariant-loop-position : goal.invariant-loop-position
invariant-loop-position l = record {
  count : length l.events ≡ l.position-index + 1;
  rest : l.events ++ events_at l.queue.events (drop l.position-index l.position-items) ≡ events_at l.queue.events l.positions;
}
