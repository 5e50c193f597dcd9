-- What a partition tells of itself.
use Rattle.std.specs.Prelude.{ℕ, Bool, List, [], Option, Some, None, map}
use Rattle.stream_ident.specs.declared.event.Event.{Event}
use Rattle.stream_ident.specs.declared.ident.SubName.{SubName}
use Rattle.stream_ident.specs.SubName.{sub_lt}
use Rattle.stream_model.specs.declared.plain.PlainPartition.{PlainPartition}
use Rattle.stream_model.specs.declared.plain.Subscription.{Subscription}
use Rattle.stream_model.specs.Draining.{in_order}
use Rattle.stream_model.specs.Positions.{events_at, sub_at}
use Rattle.step_core.specs.declared.reading.SubSummary.{SubSummary}

abbrev pub summary_of : SubName × Subscription → SubSummary
summary_of entry =
    record { name = entry.0; stream = entry.1.stream; grain = entry.1.grain; start = entry.1.start; is_open = entry.1.is_open }

-- the summary of each record, in the order in which they were made
abbrev pub summaries_of : PlainPartition → List SubSummary
summaries_of p = map summary_of p.subs

-- by the order of names
abbrev pub is_named_before : SubSummary → SubSummary → Bool
is_named_before a b = sub_lt a.name b.name

-- a summary of each record, from the least name to the greatest
abbrev pub summaries_in_order : PlainPartition → List SubSummary
summaries_in_order p = in_order is_named_before (summaries_of p)

abbrev pub positions_by : Option Subscription → List ℕ
positions_by None = []
positions_by (Some r) = r.handled

-- the positions of the events that a subscription has handled, none where it has no record
abbrev pub handled_positions : PlainPartition → SubName → List ℕ
handled_positions p s = positions_by (sub_at p s)

abbrev pub handled_by : PlainPartition → Option Subscription → List Event
handled_by p None = []
handled_by p (Some r) = events_at p.log r.handled

-- the events that a subscription has handled, none where it has no record
abbrev pub handled_of : PlainPartition → SubName → List Event
handled_of p s = handled_by p (sub_at p s)
