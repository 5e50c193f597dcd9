use Rattle.step_core.proofs.Prelude.{suc, ◌-◌}
use Rattle.stream_model.specs.Draining.{drain_all}
use Rattle.step_core.proofs.DrainLoops.{Suffices}
use Rattle.step_core.proofs.DrainReplies.{more_rounds}
use Rattle.step_core.proofs.draining.drain_all.Given as goal

abbrev pub invariant-loop : goal.invariant-loop
invariant-loop l = Suffices l.fn.partition l.partition (more_rounds (suc l.rounds - l.counter) l.partition) (drain_all l.fn.partition)
