use Rattle.stream_script.proofs.Texts.{writes_failed}
use Rattle.stream_script.proofs.printer.text.push_events.Goals as goal

pub returns-in_err-push_event : goal.returns-in_err-push_event
returns-in_err-push_event c = writes_failed c.args.out.now.items c.loop-event.out.items _ _ _ _ c.loop-event.invariant c.in_err-push_event.ensures c.from_residual.ensures.0
