use Rattle.subscription_table.proofs.Prelude.{numbers_below, ◌≡◌, ◌-◌, ◌++◌, drop, length, take}
use Rattle.subscription_table.specs.Rows.{new_leaves, AreNamed}
use Rattle.subscription_table.proofs.table.push_leaves.Given as goal

abbrev pub invariant-loop-number : goal.invariant-loop-number
invariant-loop-number l = record {
  rows : l.resumes.leaves ≡ l.initial.resumes.leaves ++ new_leaves l.position (take (l.number - l.len) (drop l.len l.registry.names));
  order : numbers_below l.len l.resumes.order ≡ l.initial.resumes.order;
  long : length l.resumes.leaves ≡ l.number;
  named : AreNamed l.resumes l.registry.names;
}
