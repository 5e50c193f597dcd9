use Rattle.script_runs.proofs.Again.{reads_again}
use Rattle.script_runs.proofs.traces.laws.reads_again.Goals as goal

pub returns : goal.returns
returns c = reads_again
