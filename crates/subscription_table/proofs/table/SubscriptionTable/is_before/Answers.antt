use Rattle.subscription_table.proofs.LookLemmas.{before-rank}
use Rattle.subscription_table.proofs.table.SubscriptionTable.is_before.Goals as goal

pub returns : goal.returns
returns c =
    before-rank c.self.invariant c.self.view_is
    c.args.number c.args.other c.rank.result c.rank-2.result c.rank.ensures.within c.rank.ensures.at c.rank-2.ensures.within c.rank-2.ensures.at
