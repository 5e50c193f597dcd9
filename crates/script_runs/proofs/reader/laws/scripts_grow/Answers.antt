use Rattle.script_runs.proofs.Growing.{scripts-grow}
use Rattle.script_runs.proofs.reader.laws.scripts_grow.Goals as goal

pub returns : goal.returns
returns c = scripts-grow
