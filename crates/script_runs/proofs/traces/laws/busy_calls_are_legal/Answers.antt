use Rattle.script_runs.proofs.Busy.{busy_calls_are_legal}
use Rattle.script_runs.proofs.traces.laws.busy_calls_are_legal.Goals as goal

pub returns : goal.returns
returns c = busy_calls_are_legal
