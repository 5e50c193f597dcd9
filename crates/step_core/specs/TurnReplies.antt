-- What becomes of the parts where a turn begins and where it ends, and the reply.
use Rattle.std.specs.Prelude.{ℕ, suc, pred, ◌<◌, length, if◌then◌else◌}
use Rattle.std.specs.List.{AllByRecursion}
use Rattle.stream_ident.specs.Event.{events_at}
use Rattle.stream_ident.specs.Words.{past}
use Rattle.stream_model.specs.Replies.{Reply}
use Rattle.stream_model.specs.declared.reply.Reply.TheVariants as reply
use Rattle.consumer_grain.specs.declared.told.Begun.{Begun}
use Rattle.consumer_grain.specs.declared.told.Begun.TheVariants as begun
use Rattle.consumer_grain.specs.declared.activation.RunningTurn.{RunningTurn}
use Rattle.consumer_grain.specs.Subscriptions.{committed}
use Rattle.partition_queue.specs.Queue.{PlainQueue, token_at}
use Rattle.subscription_table.specs.Table.{PlainTable, name_at, state_at, with_state}
use Rattle.step_core.specs.declared.parts.Parts.{Parts}

-- a turn is one more, and one more rise
abbrev pub after_begun : Parts → Begun → Parts
after_begun parts (begun.Turn sub positions) = record parts { rises = suc parts.rises; turns = suc parts.turns }
after_begun parts _ = parts

-- of an activation with this number
abbrev pub of_begun : Parts → ℕ → Begun → Reply
of_begun parts activation begun.Busy = reply.Busy
of_begun parts activation begun.Empty = reply.Empty
of_begun parts activation (begun.Dropped d) = reply.Dropped (name_at parts.subs d.sub) (token_at parts.queue d.position)
of_begun parts activation (begun.Turn sub positions) =
    reply.Turn (name_at parts.subs sub) activation (suc parts.turns) (events_at parts.queue.events positions) (state_at parts.subs sub).note

-- what has begun is of a number that is given and of positions of the log, and so is what was dropped
abbrev pub IsOfParts : Parts → Begun → Type 0
IsOfParts parts (begun.Dropped d) = (d.sub < length parts.subs.registry.names) × (d.position < length parts.queue.events)
IsOfParts parts (begun.Turn sub positions) =
    (sub < length parts.subs.registry.names) × AllByRecursion (λ position. position < length parts.queue.events) positions
IsOfParts parts _ = Unit {0}

-- the events of a turn are handled where its subscription is open
abbrev pub handle : PlainTable → PlainQueue → RunningTurn → ℕ → PlainTable × Reply
handle subs queue run note =
    if (state_at subs run.sub).live
    then (with_state subs run.sub (committed run.positions note (state_at subs run.sub)), reply.Committed (name_at subs run.sub) (token_at queue (pred (past run.positions))))
    else (subs, reply.Closed)
