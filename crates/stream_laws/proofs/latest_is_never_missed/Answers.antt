use Rattle.stream_laws.proofs.KeptStep.{kept-step}
use Rattle.stream_laws.proofs.LawsOfMisses.{latest_is_never_missed-from}
use Rattle.stream_laws.proofs.latest_is_never_missed.Goals as goal

pub returns : goal.returns
returns c = latest_is_never_missed-from kept-step
