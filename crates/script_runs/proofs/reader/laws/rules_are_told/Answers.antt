use Rattle.script_runs.proofs.ToldSteps.{told-legal}
use Rattle.script_runs.proofs.reader.laws.rules_are_told.Goals as goal

pub returns : goal.returns
returns c = λ blocks limits history p stands. (told-legal blocks limits history p stands).rules
