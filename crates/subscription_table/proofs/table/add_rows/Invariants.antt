use Rattle.subscription_table.proofs.Prelude.{◌≡◌, ◌-◌, ◌≤◌, ◌++◌, drop, take, vec_capacity}
use Rattle.subscription_table.specs.Standing.{tags_of}
use Rattle.subscription_table.specs.Table.{new_states}
use Rattle.subscription_table.proofs.table.add_rows.Given as goal

abbrev pub invariant-loop-number : goal.invariant-loop-number
invariant-loop-number l = record {
  states : l.states.items ≡ l.initial.states.items ++ new_states l.position (take (l.number - l.len) (drop l.len l.registry.names));
  tags : l.tags.items ≡ l.initial.tags.items ++ tags_of (take (l.number - l.len) (drop l.len l.registry.names));
  states_room : l.number-end ≤ vec_capacity l.states;
  tags_room : l.number-end ≤ vec_capacity l.tags;
}
