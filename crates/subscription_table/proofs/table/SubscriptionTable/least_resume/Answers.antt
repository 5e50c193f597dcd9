use Rattle.subscription_table.proofs.Prelude.{◌∙◌}
use Rattle.subscription_table.proofs.LookLemmas.{least-found}
use Rattle.subscription_table.proofs.table.SubscriptionTable.least_resume.Goals as goal

pub returns : goal.returns
returns c =
    c.least_resume.ensures ∙ least-found c.self.invariant c.self.view_is
