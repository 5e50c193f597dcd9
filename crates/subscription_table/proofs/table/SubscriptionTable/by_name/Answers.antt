use Rattle.subscription_table.proofs.Prelude.{AreRanked, ℕ, List, sym, subst, sub_lt}
use Rattle.subscription_table.specs.Standing.{name_of}
use Rattle.subscription_table.specs.Table.{PlainTable}
use Rattle.subscription_table.proofs.table.SubscriptionTable.by_name.Goals as goal

pub returns : goal.returns
returns c =
    subst (λ (t : PlainTable). AreRanked name_of sub_lt t.registry.names c.numbers.result.now) c.self.view_is
    (subst (λ (order : List ℕ). AreRanked name_of sub_lt c.self.inside.registry.names order) (sym c.numbers.ensures.numbers) c.self.invariant.ranked)
