-- What a partition is owed that is quiet, and what a drain leaves that has come to its end.
use Rattle.std.specs.Prelude.{◌≡◌, ◌≤◌, ℕ, false, List, [], None}
use Rattle.stream_ident.specs.declared.ident.StreamId.{StreamId}
use Rattle.stream_ident.specs.declared.ident.SubName.{SubName}
use Rattle.stream_ident.specs.declared.ident.SubName.TheVariants as name
use Rattle.stream_model.specs.declared.drain_end.DrainEnd.{DrainEnd}
use Rattle.stream_model.specs.declared.drain_end.DrainEnd.TheVariants as ending
use Rattle.stream_model.specs.declared.limits.Limits.{Limits}
use Rattle.stream_model.specs.declared.plain.PlainPartition.{PlainPartition}
use Rattle.stream_model.specs.declared.reply.Reply.TheVariants.{IsQuiet}
use Rattle.stream_model.specs.History.{Entry, handled_events, is_closed, owed_events}
use Rattle.stream_model.specs.Looks.{quiet}
use Rattle.stream_model.specs.Positions.{sub_at}
use Rattle.stream_model.specs.Step.{Stands}
use Rattle.stream_laws.specs.DrainLaws.{left, sum_open}

-- By each history that leads to the partition, open subscriptions have handled all that they are owed, and an
-- implicit name without a record is owed nothing.
abbrev pub OwesNothing : PlainPartition → Type 0
OwesNothing p =
    (blocks : ℕ) (limits : Limits) (history : List Entry) → Stands blocks limits history p
    → ((s : SubName) → is_closed history s ≡ false → handled_events history s ≡ owed_events history s)
    × ((kind : List ℕ) (stream : StreamId) → sub_at p (name.Implicit kind stream) ≡ None → owed_events history (name.Implicit kind stream) ≡ [])

-- A drain that has handled all left the partition quiet. It took a turn for each event that, by each history
-- that leads to the partition before, the subscriptions that are open after it were owed and hadn't handled.
abbrev pub Finishes : PlainPartition → PlainPartition → DrainEnd → Type 0
Finishes old new (ending.Drained turns) =
    (quiet new ≡ IsQuiet)
    × ((blocks : ℕ) (limits : Limits) (history : List Entry) → 1 ≤ blocks → Stands blocks limits history old → turns ≡ sum_open (left history) new.subs)
Finishes old new _ = Unit {0}
