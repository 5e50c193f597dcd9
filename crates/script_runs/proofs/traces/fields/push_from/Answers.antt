use Rattle.script_runs.proofs.Prelude.{append_assoc, writes_then}
use Rattle.script_runs.proofs.traces.fields.push_from.Goals as goal

pub returns : goal.returns
returns c = writes_then c.args.out.now.items _ _ _ _ _ _ c.in_ok-push_binding.ensures c.push_placed.ensures (simp append_assoc)
