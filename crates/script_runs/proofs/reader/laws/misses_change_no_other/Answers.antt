use Rattle.script_runs.proofs.Misses.{misses-change-no-other}
use Rattle.script_runs.proofs.reader.laws.misses_change_no_other.Goals as goal

pub returns : goal.returns
returns c = misses-change-no-other
