use Rattle.activation_directory.proofs.OnePermit.{one-permit}
use Rattle.shared_partition.proofs.Directories.{called-leaves, called-tells}
use Rattle.shared_partition.proofs.directory.SharedDirectory.call_by.Goals as goal

pub returns-clause-permit : goal.returns-clause-permit
returns-clause-permit g c = called-tells c.args.handle.now c.call.new.self c.args.op c.call.result one-permit c.requires c.call.ensures.calls

pub returns-clause-stands : goal.returns-clause-stands
returns-clause-stands g c = called-leaves c.args.handle.now c.call.new.self c.args.op c.call.result c.call.ensures.calls
