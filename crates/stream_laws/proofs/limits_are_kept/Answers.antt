use Rattle.stream_laws.proofs.LawsOfHistories.{limits-kept}
use Rattle.stream_laws.proofs.limits_are_kept.Goals as goal

pub returns : goal.returns
returns c = limits-kept
