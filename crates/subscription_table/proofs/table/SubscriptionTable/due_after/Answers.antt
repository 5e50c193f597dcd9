use Rattle.subscription_table.proofs.Prelude.{option_copied}
use Rattle.subscription_table.proofs.LookLemmas.{due-given}
use Rattle.subscription_table.proofs.table.SubscriptionTable.due_after.Goals as goal

pub returns-clause-none : goal.returns-clause-none
returns-clause-none c =
    (due-given c.self.invariant c.self.view_is c.args.high (option_copied c.args.after) c.first_past-from.result c.numbers.ensures.numbers c.first_past-from.ensures
    c.due_from.result c.due_from.ensures.due c.due_from.ensures.within).none

pub returns-clause-some : goal.returns-clause-some
returns-clause-some c =
    (due-given c.self.invariant c.self.view_is c.args.high (option_copied c.args.after) c.first_past-from.result c.numbers.ensures.numbers c.first_past-from.ensures
    c.due_from.result c.due_from.ensures.due c.due_from.ensures.within).some
