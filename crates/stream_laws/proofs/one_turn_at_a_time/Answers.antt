use Rattle.stream_laws.proofs.LawsOfRunning.{one-turn}
use Rattle.stream_laws.proofs.one_turn_at_a_time.Goals as goal

pub returns : goal.returns
returns c = one-turn
