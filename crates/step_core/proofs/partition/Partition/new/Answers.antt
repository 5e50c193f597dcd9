use Rattle.step_core.proofs.NewParts.{agrees-new}
use Rattle.step_core.proofs.partition.Partition.new.Goals as goal

pub invariant_of-result : goal.invariant_of-result
invariant_of-result c =
    agrees-new c.args.blocks c.args.limits c.new.result c.in_ok-new.field-0 c.new-3.result c.new-4.result
    c.new.ensures c.in_ok-new.ensures c.new-3.ensures c.new-4.ensures c.requires.some_blocks c.requires.blocks c.requires.limits
