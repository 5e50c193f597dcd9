use Rattle.stream_laws.proofs.Drained.{drained-turns}
use Rattle.stream_laws.proofs.drained_turns.Goals as goal

pub returns : goal.returns
returns c = drained-turns
