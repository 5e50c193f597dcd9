use Rattle.std.specs.Arc.{arc_value}
use Rattle.stream_laws.proofs.KeptStep.{kept-step}
use Rattle.stream_laws.proofs.LawsOfHistories.{one_history-from}
use Rattle.queue_callers.proofs.Tracing.{queue-trace}
use Rattle.queue_callers.proofs.closing.close_queue.Goals as goal

pub returns-in-Traced : goal.returns-in-Traced
returns-in-Traced g c =
    let parts = c.into_parts-shared in
    queue-trace (arc_value parts.result.0) c.in-Some.turnstile parts.result.1 c.args.queue c.in_ok-passes.passes.items (g.H.StoredHistory.entries c.in-Traced.done.history) c.in-Traced.done.object c.into_partition.result
    (one_history-from kept-step) parts.ensures.pass parts.ensures.of parts.ensures.empty c.in-Some.ensures c.in_ok-passes.ensures c.in-Traced.ensures c.into_partition.ensures
