use Rattle.script_runs.proofs.Producers.{producers-tell}
use Rattle.script_runs.proofs.reader.laws.producers_tell.Goals as goal

pub returns : goal.returns
returns c = producers-tell
