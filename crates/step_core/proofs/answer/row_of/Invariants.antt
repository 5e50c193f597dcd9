use Rattle.step_core.proofs.Prelude.{◌≡◌, ◌+◌, ◌++◌, drop, length}
use Rattle.step_core.proofs.answer.row_of.Given as goal

abbrev pub invariant-loop-event : goal.invariant-loop-event
invariant-loop-event l = record {
  count : length l.row ≡ l.event-index + 1;
  rest : l.row ++ drop l.event-index l.event-items ≡ l.events;
}
