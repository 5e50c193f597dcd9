use Rattle.partition_reference.proofs.Prelude.{◌≡◌, ◌+◌, ◌++◌, drop, length, events_at}
use Rattle.partition_reference.proofs.turns.turn_events.Given as goal

abbrev pub invariant-loop-position : goal.invariant-loop-position
invariant-loop-position l = record {
  count : length l.events ≡ l.position-index + 1;
  rest : l.events ++ events_at l.log (drop l.position-index l.position-items) ≡ events_at l.log l.positions;
}
