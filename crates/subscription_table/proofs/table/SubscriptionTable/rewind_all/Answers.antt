use Rattle.subscription_table.proofs.Prelude.{SubState, ◌∙◌, List, length, map, sym, ap, subst, length-map, with_items_is}
use Rattle.subscription_table.specs.Standing.{IsTable}
use Rattle.subscription_table.specs.Table.{rewound_open}
use Rattle.subscription_table.proofs.RewindLemmas.{table-rewound}
use Rattle.subscription_table.proofs.table.SubscriptionTable.rewind_all.Goals as goal

pub invariant_of-self : goal.invariant_of-self
invariant_of-self c =
    let new = c.rewind_each.new.states in
    let long = ap length c.rewind_each.ensures ∙ length-map c.as_mut_slice.result.now rewound_open ∙ c.as_mut_slice.ensures.len in
    subst (λ (states : List SubState). IsTable (record { registry = c.self.inside.registry; states = states }) c.self.inside.tags.items c.self.inside.resumes) (sym (with_items_is c.self.inside.states new long))
    (table-rewound c.self.invariant new (c.rewind_each.ensures ∙ ap (map rewound_open) c.as_mut_slice.ensures.value))
