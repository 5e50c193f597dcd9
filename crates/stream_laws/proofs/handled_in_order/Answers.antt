use Rattle.stream_laws.proofs.KeptStep.{kept-step}
use Rattle.stream_laws.proofs.LawsOfEvents.{handled_in_order-from}
use Rattle.stream_laws.proofs.handled_in_order.Goals as goal

pub returns : goal.returns
returns c = handled_in_order-from kept-step
