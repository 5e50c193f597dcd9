use Rattle.stream_laws.proofs.LawsOfFronts.{turns-longest}
use Rattle.stream_laws.proofs.turns_are_longest.Goals as goal

pub returns : goal.returns
returns c = turns-longest
