use Rattle.script_runs.proofs.Prelude.{answered, recorded}
use Rattle.script_runs.specs.Traces.{heading}
use Rattle.script_runs.proofs.Printing.{Printed}
use Rattle.script_runs.proofs.traces.trace.queue_trace.Given as goal

-- the calls so far were done again and printed
abbrev pub invariant-loop-asked : goal.invariant-loop-asked
invariant-loop-asked l = Printed l.calls l.queue (heading l.queue) (answered l.history.asked.items (recorded l.history.replies)) l.asked-index l.text.items l.partition
