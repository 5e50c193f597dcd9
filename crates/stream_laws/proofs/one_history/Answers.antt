use Rattle.stream_laws.proofs.KeptStep.{kept-step}
use Rattle.stream_laws.proofs.LawsOfHistories.{one_history-from}
use Rattle.stream_laws.proofs.one_history.Goals as goal

pub returns : goal.returns
returns c = one_history-from kept-step
