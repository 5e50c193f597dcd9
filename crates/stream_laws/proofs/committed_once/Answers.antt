use Rattle.stream_laws.proofs.KeptStep.{kept-step}
use Rattle.stream_laws.proofs.LawsOfTurns.{committed_once-from}
use Rattle.stream_laws.proofs.committed_once.Goals as goal

pub returns : goal.returns
returns c = committed_once-from kept-step
