use Rattle.stream_laws.proofs.KeptStep.{kept-step}
use Rattle.stream_laws.proofs.LawsOfTurns.{none_after_close-from}
use Rattle.stream_laws.proofs.none_after_close.Goals as goal

pub returns : goal.returns
returns c = none_after_close-from kept-step
