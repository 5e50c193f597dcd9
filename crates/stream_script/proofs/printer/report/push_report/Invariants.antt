use Rattle.stream_script.proofs.ReportLemmas.{ReportsSoFar}
use Rattle.stream_script.proofs.printer.report.push_report.Given as goal

-- the queues so far
abbrev pub invariant-loop-queue : goal.invariant-loop-queue
invariant-loop-queue l = ReportsSoFar l.fn.out.items l.out.items l.queue l.partitions
