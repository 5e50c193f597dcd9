use Rattle.subscription_table.proofs.Prelude.{◌≡◌, ◌++◌, drop, map, take}
use Rattle.subscription_table.specs.Table.{rewound_open}
use Rattle.subscription_table.proofs.table.rewind_each.Given as goal

abbrev pub invariant-loop-state : goal.invariant-loop-state
invariant-loop-state l = l.states ≡ map rewound_open (take l.state-index l.initial.states) ++ drop l.state-index l.initial.states
