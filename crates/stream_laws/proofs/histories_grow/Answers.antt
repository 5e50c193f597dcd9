use Rattle.stream_laws.proofs.LawsOfHistories.{histories-grow}
use Rattle.stream_laws.proofs.histories_grow.Goals as goal

pub returns : goal.returns
returns c = histories-grow
