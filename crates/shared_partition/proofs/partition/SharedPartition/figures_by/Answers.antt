use Rattle.shared_partition.proofs.Prelude.{kept-step, one_history-from}
use Rattle.shared_partition.proofs.Partitions.{looked-leaves, looked-tells}
use Rattle.shared_partition.proofs.partition.SharedPartition.figures_by.Goals as goal

pub returns-clause-headline : goal.returns-clause-headline
returns-clause-headline g c = looked-tells c.args.handle.now c.look.new.self _ (one_history-from kept-step) c.requires c.look.ensures

pub returns-clause-stands : goal.returns-clause-stands
returns-clause-stands g c = looked-leaves c.args.handle.now c.look.new.self _ c.look.ensures
