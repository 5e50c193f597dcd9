use Rattle.stream_laws.proofs.DrainLeads.{drain-stands}
use Rattle.stream_laws.proofs.drain_stands.Goals as goal

pub returns : goal.returns
returns c = drain-stands
