use Rattle.script_checker.proofs.CountLemmas.{counts_of_all}
use Rattle.script_checker.proofs.laws.lines_are_counted.Goals as goal

pub returns : goal.returns
returns c = counts_of_all
