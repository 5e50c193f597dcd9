use Rattle.stream_laws.proofs.Drained.{drain-ends}
use Rattle.stream_laws.proofs.drain_ends.Goals as goal

pub returns : goal.returns
returns c = drain-ends
