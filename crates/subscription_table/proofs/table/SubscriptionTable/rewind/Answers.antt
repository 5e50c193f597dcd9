use Rattle.subscription_table.proofs.Prelude.{SubState, ◌∙◌, List, sym, subst, with_items_is}
use Rattle.subscription_table.specs.Rows.{AreRewoundAt}
use Rattle.subscription_table.specs.Standing.{IsTable}
use Rattle.subscription_table.proofs.RewindLemmas.{table-rewound_at}
use Rattle.subscription_table.proofs.table.SubscriptionTable.rewind.Goals as goal

pub invariant_of-self : goal.invariant_of-self
invariant_of-self c =
    let new = c.rewind_these.new.states in
    let long = c.rewind_these.ensures.long ∙ c.as_mut_slice.ensures.len in
    subst (λ (states : List SubState). IsTable (record { registry = c.self.inside.registry; states = states }) c.self.inside.tags.items c.self.inside.resumes) (sym (with_items_is c.self.inside.states new long))
    (table-rewound_at c.self.invariant new c.args.numbers.now (subst (λ (old : List SubState). AreRewoundAt c.args.numbers.now old new) c.as_mut_slice.ensures.value c.rewind_these.ensures))
