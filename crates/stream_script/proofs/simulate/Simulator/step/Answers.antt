use Rattle.stream_script.proofs.Prelude.{◌<◌, length, ap, arith, empty, PlainPartition}
use Rattle.stream_model.specs.Replies.{Reply}
use Rattle.stream_script.specs.Replies.{reply_line}
use Rattle.stream_script.specs.Simulation.{step_on}
use Rattle.stream_script.proofs.EachLemmas.{does}
use Rattle.stream_script.proofs.simulate.Simulator.step.Goals as goal

pub returns-in-Ok-clause-text : goal.returns-in-Ok-clause-text
returns-in-Ok-clause-text c =
    let config = c.args.self.now.config in
    let within : c.args.queue < length c.args.self.now.partitions.items = omega (arith, c.requires, c.args.self.now.one_each, c.args.self.now.partitions.ok.0) in
    does (step_on c.args.op.now) c.args.self.now.partitions.items c.args.queue _ _ (empty config.blocks config.limits) _ _ _ _ within c.index_mut-partition.ensures.value
    (ap (λ (done : PlainPartition × Reply). (done.0, reply_line c.args.queue done.1)) c.in-Ok.ensures.performs) c.outcome_line.ensures
