use Rattle.stream_laws.proofs.KeptStep.{kept-step}
use Rattle.stream_laws.proofs.LawsOfEvents.{records_agree-from}
use Rattle.stream_laws.proofs.records_agree.Goals as goal

pub returns : goal.returns
returns c = records_agree-from kept-step
