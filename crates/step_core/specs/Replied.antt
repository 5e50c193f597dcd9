-- The replies that outcomes stand for.
use Rattle.std.specs.Prelude.{◌≡◌, ◌<◌, ◌≤◌, ℕ, [], length, List, Result, Ok, Err, vec_capacity}
use Rattle.std.specs.Global.{Vec}
use Rattle.std.specs.List.{AllByRecursion}
use Rattle.std.specs.declared.alloc.AllocError.{AllocError}
use Rattle.stream_ident.specs.declared.event.Event.{Event}
use Rattle.stream_ident.specs.Event.{events_at}
use Rattle.stream_ident.specs.declared.limits.TheConstants.{TURN_EVENTS}
use Rattle.stream_model.specs.declared.reply.Reply as declared
use Rattle.stream_model.specs.declared.reply.Reply.TheVariants as reply
use Rattle.stream_model.specs.Replies.{with_events, Reply}

-- a reply whose turn has the positions of its events
abbrev pub Outcome : Type 0
Outcome = declared.Reply (List ℕ)

-- the reply of an outcome that is no turn
abbrev pub reply_of : Outcome → Reply
reply_of came = with_events (λ positions. []) came

abbrev pub replied : Result Outcome AllocError → Result Reply AllocError
replied (Ok came) = Ok (reply_of came)
replied (Err e) = Err e

-- a reply whose turn has the log's events at its positions
abbrev pub reply_with : List Event → Outcome → Reply
reply_with log came = with_events (events_at log) came

-- the reply for which the result of `advance` stands
abbrev pub answered : List Event → Result Outcome AllocError → Result Reply AllocError
answered log (Ok came) = Ok (reply_with log came)
answered log (Err e) = Err e

-- the positions of a reply's turn lie in the log
abbrev pub IsOfLog : List Event → Outcome → Type 0
IsOfLog log (reply.Turn sub activation turn positions note) = AllByRecursion (λ position. position < length log) positions
IsOfLog log _ = Unit {0}

-- an answer stands for this reply, whatever the events of its turn are
abbrev pub Says : Outcome → Reply → Type 0
Says (reply.Turn sub activation turn positions note) r = (events : List Event) × (r ≡ reply.Turn sub activation turn events note)
Says came r = r ≡ reply_of came

-- these are a turn's events, where the reply is one
abbrev pub HasEvents : Reply → List Event → Type 0
HasEvents (reply.Turn sub activation turn events note) shown = shown ≡ events
HasEvents _ shown = Unit {0}

-- the events of a turn take the place of those before
abbrev pub events_after : Reply → List Event → List Event
events_after (reply.Turn sub activation turn events note) old = events
events_after _ old = old

-- a turn's events are in the lent room, if it has the sixteen places
abbrev pub Shows : Vec Event → Vec Event → Reply → Type 0
Shows old new r = (TURN_EVENTS ≤ vec_capacity old → new.items ≡ events_after r old.items) × (vec_capacity new ≡ vec_capacity old)
