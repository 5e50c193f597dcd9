use Rattle.script_tasks.proofs.Prelude.{map, take, Appends, asked_entries}
use Rattle.script_runs.specs.Traces.{traces_from}
use Rattle.script_tasks.specs.Printing.{seen}
use Rattle.script_tasks.proofs.silos.write_traces.Given as goal

-- the histories so far were written
abbrev pub invariant-loop-queue : goal.invariant-loop-queue
invariant-loop-queue g l = Appends (g.W.Write.contents l.fn.sink) (g.W.Write.contents l.sink) (traces_from (seen l.shown) 0 (take l.queue (map asked_entries l.traces.histories.items)))
