use Rattle.stream_laws.proofs.KeptStep.{kept-step}
use Rattle.stream_laws.proofs.LawsOfTokens.{none_twice-from}
use Rattle.stream_laws.proofs.none_twice.Goals as goal

pub returns : goal.returns
returns c = none_twice-from kept-step
