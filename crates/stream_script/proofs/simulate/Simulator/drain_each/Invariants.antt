use Rattle.stream_script.proofs.Prelude.{◌≡◌}
use Rattle.stream_script.specs.Simulation.{drain_on}
use Rattle.stream_script.proofs.EachLemmas.{SoFar}
use Rattle.stream_script.proofs.simulate.Simulator.drain_each.Given as goal

-- the queues so far
abbrev pub invariant-loop-queue : goal.invariant-loop-queue
invariant-loop-queue l = record {
  config : l.self.config ≡ l.fn.self.config;
  so_far : SoFar drain_on l.queue l.fn.self.partitions.items l.self.partitions.items l.text.items;
}
