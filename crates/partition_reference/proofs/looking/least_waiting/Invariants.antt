use Rattle.partition_reference.proofs.Prelude.{◌≡◌, drop, None, grain_lt, least_key, is_waiting}
use Rattle.partition_reference.proofs.looking.least_waiting.Given as goal

abbrev pub invariant-loop-index : goal.invariant-loop-index
invariant-loop-index l = l.least ≡ least_key grain_lt None is_waiting (drop l.index l.grains)
