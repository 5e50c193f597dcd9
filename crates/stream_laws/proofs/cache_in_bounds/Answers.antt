use Rattle.stream_laws.proofs.KeptStep.{kept-step}
use Rattle.stream_laws.proofs.LawsOfRecords.{cache_in_bounds-from}
use Rattle.stream_laws.proofs.cache_in_bounds.Goals as goal

pub returns : goal.returns
returns c = cache_in_bounds-from kept-step
