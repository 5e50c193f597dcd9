use Rattle.stream_script.proofs.Prelude.{◌∙◌, ap, ◌<◌, length, arith, empty}
use Rattle.stream_script.specs.declared.simulate.SimConfig.{SimConfig}
use Rattle.stream_script.proofs.EachLemmas.{next_done}
use Rattle.stream_script.proofs.simulate.Simulator.drain_each.Goals as goal

pub loop-queue-preserved : goal.loop-queue-preserved
loop-queue-preserved c =
    let now = c.loop-queue.self in
    let same_queues = ap (λ (config : SimConfig). config.queues) c.loop-queue.invariant.config in
    let within : c.loop-queue.queue < length now.partitions.items = omega (arith, c.loop-queue-test.true, same_queues, now.one_each, now.partitions.ok.0) in
    record {
      config = c.in_ok-drain.ensures.config ∙ c.loop-queue.invariant.config;
      so_far = next_done _ c.loop-queue.queue c.args.self.now.partitions.items now.partitions.items c.drain.new.self.partitions.items c.loop-queue.text.items c.drain.new.text.items (empty now.config.blocks now.config.limits) within c.loop-queue.invariant.so_far c.in_ok-drain.ensures.text;
    }
