use Rattle.stream_laws.proofs.KeptStep.{kept-step}
use Rattle.stream_laws.proofs.LawsOfQuiet.{quiet_is_done-from}
use Rattle.stream_laws.proofs.quiet_is_done.Goals as goal

pub returns : goal.returns
returns c = quiet_is_done-from kept-step
