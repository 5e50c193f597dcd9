use Rattle.script_runs.proofs.ToldRecords.{explicit-told}
use Rattle.script_runs.proofs.reader.laws.explicit_are_told.Goals as goal

pub returns : goal.returns
returns c = explicit-told
