use Rattle.subscription_table.proofs.Prelude.{refl}
use Rattle.subscription_table.proofs.LookLemmas.{due-given, past-rank}
use Rattle.subscription_table.proofs.table.SubscriptionTable.due_past.Goals as goal

pub returns-clause-none : goal.returns-clause-none
returns-clause-none c =
    (due-given c.self.invariant c.self.view_is c.args.high _ _ refl
    (past-rank c.self.invariant c.self.view_is c.args.number c.rank-from.result c.rank-from.ensures.within c.rank-from.ensures.at) c.due_from.result c.due_from.ensures.due c.due_from.ensures.within).none

pub returns-clause-some : goal.returns-clause-some
returns-clause-some c =
    (due-given c.self.invariant c.self.view_is c.args.high _ _ refl
    (past-rank c.self.invariant c.self.view_is c.args.number c.rank-from.result c.rank-from.ensures.within c.rank-from.ensures.at) c.due_from.result c.due_from.ensures.due c.due_from.ensures.within).some
