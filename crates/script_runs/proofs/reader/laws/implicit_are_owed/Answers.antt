use Rattle.script_runs.proofs.ToldRecords.{implicit-owed}
use Rattle.script_runs.proofs.reader.laws.implicit_are_owed.Goals as goal

pub returns : goal.returns
returns c = implicit-owed
