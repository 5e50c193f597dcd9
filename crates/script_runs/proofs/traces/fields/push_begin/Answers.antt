use Rattle.script_runs.proofs.Prelude.{append_assoc, writes_then}
use Rattle.script_runs.proofs.traces.fields.push_begin.Goals as goal

pub returns : goal.returns
returns c = writes_then c.args.out.now.items _ _ _ _ _ _ c.in_ok-push_queue_grain.ensures c.push_count.ensures (simp append_assoc)
