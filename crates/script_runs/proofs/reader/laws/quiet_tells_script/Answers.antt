use Rattle.script_runs.proofs.QuietReports.{script-told}
use Rattle.script_runs.proofs.reader.laws.quiet_tells_script.Goals as goal

pub returns : goal.returns
returns c = script-told
