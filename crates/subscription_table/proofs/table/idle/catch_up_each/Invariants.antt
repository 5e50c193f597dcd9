use Rattle.subscription_table.proofs.Prelude.{high, open_leaf, with_leaves, ◌-◌}
use Rattle.subscription_table.specs.Idle.{CatchUpAt}
use Rattle.subscription_table.specs.Standing.{IsTable}
use Rattle.subscription_table.proofs.table.idle.catch_up_each.Given as goal

abbrev pub invariant-loop-rank : goal.invariant-loop-rank
invariant-loop-rank l =
    IsTable (record { registry = l.registry; states = l.states }) l.tags (with_leaves l.first (l.rank - l.first) (open_leaf (high l.cache)) l.resumes)
    × CatchUpAt l.cache l.resumes.order (record { registry = l.registry; states = l.initial.states }) (record { registry = l.registry; states = l.states }) l.first (l.rank - l.first)
