use Rattle.stream_laws.proofs.LawsOfHistories.{fronts-legal}
use Rattle.stream_laws.proofs.fronts_are_legal.Goals as goal

pub returns : goal.returns
returns c = fronts-legal
