use Rattle.stream_laws.proofs.Drained.{drained-quiet}
use Rattle.stream_laws.proofs.drained_is_quiet.Goals as goal

pub returns : goal.returns
returns c = drained-quiet
