use Rattle.stream_laws.proofs.KeptStep.{kept-step}
use Rattle.stream_laws.proofs.LawsOfEvents.{owed_is_kept-from}
use Rattle.stream_laws.proofs.owed_is_kept.Goals as goal

pub returns : goal.returns
returns c = owed_is_kept-from kept-step
