use Rattle.script_runs.proofs.Prelude.{writes_failed}
use Rattle.script_runs.proofs.traces.write.push_texts.Goals as goal

pub returns-in_err-push_quoted : goal.returns-in_err-push_quoted
returns-in_err-push_quoted c = writes_failed c.args.out.now.items c.loop-payload.out.items _ _ _ _ c.loop-payload.invariant c.in_err-push_quoted.ensures c.from_residual.ensures.0
