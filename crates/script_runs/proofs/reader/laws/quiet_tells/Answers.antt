use Rattle.script_runs.proofs.QuietReports.{told-in-order}
use Rattle.script_runs.proofs.reader.laws.quiet_tells.Goals as goal

pub returns : goal.returns
returns c = told-in-order
