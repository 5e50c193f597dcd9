use Rattle.stream_script.proofs.Prelude.{replicate, ◌≡◌, empty}
use Rattle.stream_script.proofs.simulate.Simulator.new.Given as goal

abbrev pub invariant-loop : goal.invariant-loop
invariant-loop l = l.partitions.items ≡ replicate l.counter (empty l.config.blocks l.config.limits)
