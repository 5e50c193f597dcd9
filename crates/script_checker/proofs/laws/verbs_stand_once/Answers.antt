use Rattle.script_checker.proofs.VerbPlaces.{stands_once}
use Rattle.script_checker.proofs.laws.verbs_stand_once.Goals as goal

pub returns : goal.returns
returns c = stands_once
