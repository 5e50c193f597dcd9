use Rattle.shared_partition.proofs.Prelude.{kept-step, one_history-from}
use Rattle.shared_partition.specs.Partitions.{after, replied}
use Rattle.shared_partition.proofs.Legal.{seen-legal}
use Rattle.shared_partition.proofs.Partitions.{legal-leaves, legal-tells}
use Rattle.shared_partition.proofs.partition.SharedPartition.call.Goals as goal

pub returns-clause-headline : goal.returns-clause-headline
returns-clause-headline g c =
    legal-tells c.args.turnstile.now.start _ (one_history-from kept-step) c.requires.empty
    (seen-legal replied after c.args.turnstile.now.start c.args.pass.now c.args.op c.call_into.result c.call_into.new.pass.seen c.call_into.ensures.call)

pub returns-clause-stands : goal.returns-clause-stands
returns-clause-stands g c =
    legal-leaves c.args.turnstile.now.start _
    (seen-legal replied after c.args.turnstile.now.start c.args.pass.now c.args.op c.call_into.result c.call_into.new.pass.seen c.call_into.ensures.call)
