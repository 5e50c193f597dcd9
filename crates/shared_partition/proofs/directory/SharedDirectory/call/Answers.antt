use Rattle.shared_partition.specs.Directories.{after, replied}
use Rattle.activation_directory.proofs.OnePermit.{one-permit}
use Rattle.shared_partition.proofs.Legal.{seen-legal}
use Rattle.shared_partition.proofs.Directories.{legal-leaves, legal-tells}
use Rattle.shared_partition.proofs.directory.SharedDirectory.call.Goals as goal

pub returns-clause-permit : goal.returns-clause-permit
returns-clause-permit g c =
    legal-tells c.args.turnstile.now.start _ one-permit c.requires.empty
    (seen-legal replied after c.args.turnstile.now.start c.args.pass.now c.args.op c.call.result c.call.new.pass.seen c.call.ensures.call)

pub returns-clause-stands : goal.returns-clause-stands
returns-clause-stands g c =
    legal-leaves c.args.turnstile.now.start _
    (seen-legal replied after c.args.turnstile.now.start c.args.pass.now c.args.op c.call.result c.call.new.pass.seen c.call.ensures.call)
