use Rattle.stream_laws.proofs.KeptStep.{kept-step}
use Rattle.stream_laws.proofs.LawsOfRecords.{records_are_open-from}
use Rattle.stream_laws.proofs.records_are_open.Goals as goal

pub returns : goal.returns
returns c = records_are_open-from kept-step
