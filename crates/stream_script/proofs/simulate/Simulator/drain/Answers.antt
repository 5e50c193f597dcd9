use Rattle.stream_script.proofs.Prelude.{ℕ, Some, refl, ◌≡◌, ◌<◌, length, arith, empty, PlainPartition}
use Rattle.stream_model.specs.declared.drain_end.DrainEnd.{DrainEnd}
use Rattle.stream_model.specs.Draining.{drain}
use Rattle.stream_script.specs.Replies.{drain_line}
use Rattle.stream_script.specs.Simulation.{drain_on}
use Rattle.stream_script.proofs.EachLemmas.{does}
use Rattle.stream_script.proofs.simulate.Simulator.drain.Goals as goal

drained_on : (queue : ℕ) (old new : PlainPartition) (end : DrainEnd) → (new ≡ (drain old).0.now) × ((drain old).1 ≡ Some end) → (new, drain_line queue end) ≡ drain_on queue old
drained_on queue old new end ended = rw (ended.0, ended.1) refl

pub returns-clause-text : goal.returns-clause-text
returns-clause-text c =
    let config = c.args.self.now.config in
    let within : c.args.queue < length c.args.self.now.partitions.items = omega (arith, c.requires, c.args.self.now.one_each, c.args.self.now.partitions.ok.0) in
    does drain_on c.args.self.now.partitions.items c.args.queue _ _ (empty config.blocks config.limits) _ _ _ _ within c.index_mut.ensures.value (drained_on _ _ _ _ c.in_ok-end.ensures.drains) c.drain_line.ensures
