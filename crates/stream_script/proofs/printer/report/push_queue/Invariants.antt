use Rattle.stream_script.proofs.Prelude.{◌≡◌, ◌++◌, take, flat_map}
use Rattle.step_core.specs.Reads.{summaries_in_order}
use Rattle.stream_script.specs.Report.{summary_text}
use Rattle.stream_script.proofs.printer.report.push_queue.Given as goal

-- the subscriptions so far
abbrev pub invariant-loop-place : goal.invariant-loop-place
invariant-loop-place l = l.out.items ≡ l.fn.out.items ++ flat_map (summary_text l.queue l.partition) (take l.place (summaries_in_order l.partition))
