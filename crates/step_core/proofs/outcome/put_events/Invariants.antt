use Rattle.step_core.proofs.Prelude.{◌≡◌, ◌++◌, drop, length, vec_capacity}
use Rattle.stream_ident.specs.Event.{events_at}
use Rattle.step_core.proofs.outcome.put_events.Given as goal

abbrev pub invariant-loop-position : goal.invariant-loop-position
invariant-loop-position l = record {
  count : length l.into.items ≡ l.position-index;
  room : vec_capacity l.into ≡ vec_capacity l.fn.into;
  rest : l.into.items ++ events_at l.queue.events (drop l.position-index l.position-items) ≡ events_at l.queue.events l.positions;
}
