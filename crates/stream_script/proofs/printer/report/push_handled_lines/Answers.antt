use Rattle.stream_script.proofs.Texts.{writes_failed}
use Rattle.stream_script.proofs.printer.report.push_handled_lines.Goals as goal

pub returns-in_err-push_handled_line : goal.returns-in_err-push_handled_line
returns-in_err-push_handled_line c = writes_failed c.args.out.now.items c.loop-position.out.items _ _ _ _ c.loop-position.invariant c.in_err-push_handled_line.ensures c.from_residual.ensures.0
