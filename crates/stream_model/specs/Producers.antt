-- What producers ask of a partition.
use Rattle.std.specs.Prelude.{Bool, true, false}
use Rattle.stream_model.specs.declared.op.Op.{Op}
use Rattle.stream_model.specs.declared.op.Op.TheVariants.{Publish, Subscribe, Unsubscribe, AddRule}

-- Publish, Subscribe, Unsubscribe or AddRule: what producers alone ask for. Agents, workers and operators ask
-- for the others.
abbrev pub is_producer : Op → Bool
is_producer (Publish stream payloads) = true
is_producer (Subscribe stream grain start) = true
is_producer (Unsubscribe sub) = true
is_producer (AddRule kind namespace) = true
is_producer _ = false
