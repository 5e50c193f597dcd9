use Rattle.subscription_table.proofs.Prelude.{◌∙◌, ap, None, Some, Option, SubName}
use Rattle.subscription_table.proofs.LookLemmas.{slowest-found}
use Rattle.subscription_table.proofs.table.SubscriptionTable.slowest.Goals as goal

pub returns-in_err-number : goal.returns-in_err-number
returns-in_err-number c =
    c.from_residual.ensures
    ∙ slowest-found c.self.invariant c.self.view_is None c.in_err-number.ensures.top tt

pub returns : goal.returns
returns c =
    ap {B = Option SubName} Some c.name.ensures
    ∙ slowest-found c.self.invariant c.self.view_is (Some c.in_ok-number.number) c.in_ok-number.ensures.top c.in_ok-number.ensures.within
