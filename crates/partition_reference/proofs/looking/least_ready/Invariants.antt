use Rattle.partition_reference.proofs.Prelude.{◌≡◌, drop, ◌&&◌, not, grain_lt, least_key, is_running, is_waiting, Grain}
use Rattle.partition_reference.proofs.looking.least_ready.Given as goal

abbrev pub invariant-loop-index : goal.invariant-loop-index
invariant-loop-index l = l.least ≡ least_key grain_lt l.after (λ (st : Grain). is_waiting st && not (is_running st)) (drop l.index l.grains)
