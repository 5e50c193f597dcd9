use Rattle.stream_laws.proofs.KeptStep.{kept-step}
use Rattle.stream_laws.proofs.LawsOfMisses.{misses_below_low-from}
use Rattle.stream_laws.proofs.misses_below_low.Goals as goal

pub returns : goal.returns
returns c = misses_below_low-from kept-step
