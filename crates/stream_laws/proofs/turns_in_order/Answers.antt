use Rattle.stream_laws.proofs.KeptStep.{kept-step}
use Rattle.stream_laws.proofs.LawsOfTurns.{turns_in_order-from}
use Rattle.stream_laws.proofs.turns_in_order.Goals as goal

pub returns : goal.returns
returns c = turns_in_order-from kept-step
