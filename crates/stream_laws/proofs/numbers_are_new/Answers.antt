use Rattle.stream_laws.proofs.KeptStep.{kept-step}
use Rattle.stream_laws.proofs.LawsOfRecords.{numbers_are_new-from}
use Rattle.stream_laws.proofs.numbers_are_new.Goals as goal

pub returns : goal.returns
returns c = numbers_are_new-from kept-step
