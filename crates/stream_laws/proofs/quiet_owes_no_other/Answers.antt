use Rattle.stream_laws.proofs.KeptStep.{kept-step}
use Rattle.stream_laws.proofs.LawsOfQuiet.{quiet_owes_no_other-from}
use Rattle.stream_laws.proofs.quiet_owes_no_other.Goals as goal

pub returns : goal.returns
returns c = quiet_owes_no_other-from kept-step
