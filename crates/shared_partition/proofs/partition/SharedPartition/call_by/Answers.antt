use Rattle.shared_partition.proofs.Prelude.{kept-step, one_history-from}
use Rattle.shared_partition.proofs.Partitions.{called-leaves, called-tells}
use Rattle.shared_partition.proofs.partition.SharedPartition.call_by.Goals as goal

pub returns-clause-headline : goal.returns-clause-headline
returns-clause-headline g c = called-tells c.args.handle.now c.call.new.self c.args.op c.call.result (one_history-from kept-step) c.requires c.call.ensures.calls

pub returns-clause-stands : goal.returns-clause-stands
returns-clause-stands g c = called-leaves c.args.handle.now c.call.new.self c.args.op c.call.result c.call.ensures.calls
