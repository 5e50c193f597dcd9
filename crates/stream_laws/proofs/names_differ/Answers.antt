use Rattle.stream_laws.proofs.LawsOfRecords.{names-differ}
use Rattle.stream_laws.proofs.names_differ.Goals as goal

pub returns : goal.returns
returns c = names-differ
