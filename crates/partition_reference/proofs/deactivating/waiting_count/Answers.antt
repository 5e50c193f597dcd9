use Rattle.partition_reference.proofs.Prelude.{ap, length, arith, ◌∙◌}
use Rattle.partition_reference.proofs.deactivating.waiting_count.Goals as goal

pub returns-clause-count : goal.returns-clause-count
returns-clause-count c = c.len.ensures ∙ (c.mailbox.inside.items.ok.0 ∙ ap length c.mailbox.view_is)

pub returns-clause-bound : goal.returns-clause-bound
returns-clause-bound c = omega (arith, c.len.ensures, c.mailbox.inside.items.ok.1, c.mailbox.inside.items.small)
