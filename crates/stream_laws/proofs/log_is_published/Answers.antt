use Rattle.stream_laws.proofs.KeptStep.{kept-step}
use Rattle.stream_laws.proofs.LawsOfEvents.{log_is_published-from}
use Rattle.stream_laws.proofs.log_is_published.Goals as goal

pub returns : goal.returns
returns c = log_is_published-from kept-step
