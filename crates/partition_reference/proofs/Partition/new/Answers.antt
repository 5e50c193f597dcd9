use Rattle.partition_reference.proofs.Prelude.{refl}
use Rattle.stream_model.proofs.Reaching.{new-partition}
use Rattle.partition_reference.proofs.Partition.new.Goals as goal

pub invariant_of-result : goal.invariant_of-result
invariant_of-result c =
    new-partition c.args.blocks c.args.limits c.new.result c.new-2.result c.new-3.result c.new-4.result
    c.new.ensures c.new-2.ensures c.new-3.ensures c.new-4.ensures c.requires.some_blocks c.requires.blocks c.requires.limits _ refl
