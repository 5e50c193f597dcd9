use Rattle.stream_laws.proofs.KeptStep.{kept-step}
use Rattle.stream_laws.proofs.LawsOfRecords.{unknown_has_no_record-from}
use Rattle.stream_laws.proofs.unknown_has_no_record.Goals as goal

pub returns : goal.returns
returns c = unknown_has_no_record-from kept-step
