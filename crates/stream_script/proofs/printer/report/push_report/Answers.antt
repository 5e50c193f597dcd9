use Rattle.stream_script.proofs.ReportLemmas.{report_more, report_done}
use Rattle.stream_script.proofs.Texts.{writes_failed}
use Rattle.stream_script.proofs.printer.report.push_report.Goals as goal

pub returns-in_err-push_queue : goal.returns-in_err-push_queue
returns-in_err-push_queue c = writes_failed c.args.out.now.items c.loop-queue.out.items _ _ _ _ c.loop-queue.invariant.appended c.in_err-push_queue.ensures c.from_residual-in_err-push_queue.ensures.0

pub loop-queue-preserved : goal.loop-queue-preserved
loop-queue-preserved c =
    report_more c.args.out.now.items c.loop-queue.out.items _ c.loop-queue.queue c.args.partitions.now _ c.loop-queue-test.true c.index-partitions-queue.is c.loop-queue.invariant c.in_ok-push_queue.ensures

pub returns : goal.returns
returns c = report_done c.args.out.now.items c.loop-queue.out.items c.loop-queue.queue c.args.partitions.now c.loop-queue-test.false c.loop-queue.invariant
