use Rattle.subscription_table.proofs.Prelude.{◌∙◌, sym, ap, set}
use Rattle.std.proofs.lemmas.List.Edits.{map_over_more}
use Rattle.subscription_table.specs.Table.{rewound_open}
use Rattle.subscription_table.proofs.table.rewind_each.Goals as goal

pub loop-state-preserved : goal.loop-state-preserved
loop-state-preserved c =
    let states = c.loop-state.states in
    let at = c.loop-state.state-index in
    ap (set states at) (c.rewind_open.ensures ∙ ap rewound_open (sym c.state-item.is))
    ∙ map_over_more rewound_open c.args.states.now states at c.state-item.result c.loop-state-test.true c.loop-state.invariant c.state-item.is
