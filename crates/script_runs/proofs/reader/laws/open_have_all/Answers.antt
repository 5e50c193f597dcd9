use Rattle.script_runs.proofs.ToldRecords.{open-all}
use Rattle.script_runs.proofs.reader.laws.open_have_all.Goals as goal

pub returns : goal.returns
returns c = open-all
