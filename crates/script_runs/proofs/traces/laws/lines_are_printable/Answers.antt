use Rattle.script_runs.proofs.Again.{lines_are_printable}
use Rattle.script_runs.proofs.traces.laws.lines_are_printable.Goals as goal

pub returns : goal.returns
returns c = lines_are_printable
