-- Which subscriptions something can be delivered to.
use Rattle.std.specs.Prelude.{ℕ, Bool, ◌&&◌, Option, None, is_some, if◌then◌else◌}
use Rattle.stream_model.specs.declared.plain.PlainPartition.{PlainPartition}
use Rattle.stream_model.specs.declared.plain.Subscription.{Subscription}
use Rattle.stream_model.specs.Positions.{next_position}

-- open, with a next event in the cache
abbrev pub is_deliverable : PlainPartition → Subscription → Bool
is_deliverable p r = r.is_open && is_some (next_position p r)

-- the next event in the cache of one that is open
abbrev pub next_of : PlainPartition → Subscription → Option ℕ
next_of p r = if r.is_open then next_position p r else None
