use Rattle.script_runs.proofs.QuietReports.{told-where-owed}
use Rattle.script_runs.proofs.reader.laws.implicit_subs_are_owed.Goals as goal

pub returns : goal.returns
returns c = told-where-owed
