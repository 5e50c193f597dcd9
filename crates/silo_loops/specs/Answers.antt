-- What a loop takes from an answer.
use Rattle.std.specs.Prelude.{List, Option, Some, None, Result, Ok, Err, Bool, true, false}
use Rattle.stream_ident.specs.declared.event.Event.{Event}
use Rattle.step_core.specs.Replied as told
use Rattle.stream_model.specs.Replies.{Reply}
use Rattle.stream_model.specs.declared.reply.Reply.TheVariants as reply
use Rattle.activation_directory.specs.declared.reply.DirectoryReply.{DirectoryReply}
use Rattle.activation_directory.specs.declared.reply.DirectoryReply.TheVariants as directory
use Rattle.turnstile.specs.declared.turnstile.Refusal.{Refusal}
use Rattle.turnstile.specs.declared.turnstile.Refusal.TheVariants as refusal
use Rattle.silo_loops.specs.declared.advance.Advance.{Advance}
use Rattle.silo_loops.specs.declared.advance.Advance.TheVariants as advance
use Rattle.doorbells.specs.declared.loop_end.Over.{Over}
use Rattle.doorbells.specs.declared.loop_end.Over.TheVariants as over
use Rattle.silo_loops.specs.declared.heard.Heard.{Heard}
use Rattle.silo_loops.specs.declared.heard.Heard.TheVariants as heard

-- how a refusal ends a loop
abbrev pub end_by : Refusal → Over
end_by refusal.HistoryFull = over.Limit
end_by refusal.Memory = over.Memory

-- how an answer at a queue ends a loop, where it does
abbrev pub end_of : Result Reply Refusal → Option Over
end_of (Ok reply.TooMany) = Some over.Limit
end_of (Ok reply.Spent) = Some over.Limit
end_of (Ok _) = None
end_of (Err refused) = Some (end_by refused)

-- how an answer of the directory does
abbrev pub end_of_asking : Result DirectoryReply Refusal → Option Over
end_of_asking (Ok directory.Spent) = Some over.Limit
end_of_asking (Ok _) = None
end_of_asking (Err refused) = Some (end_by refused)

-- the same answer, without the events of a turn
abbrev pub heard_of : Result Reply Refusal → Heard
heard_of (Ok reply.TooMany) = heard.Ended over.Limit
heard_of (Ok reply.Spent) = heard.Ended over.Limit
heard_of (Err refused) = heard.Ended (end_by refused)
heard_of (Ok (reply.Next grain)) = heard.Next grain
heard_of (Ok (reply.Turn sub activation turn events note)) = heard.Turn sub activation turn note
heard_of (Ok (reply.Committed sub token)) = heard.Committed sub token
heard_of (Ok (reply.DueSub sub ack)) = heard.Due sub ack
heard_of (Ok (reply.StaleAgent now)) = heard.StaleAgent
heard_of (Ok (reply.Pulled count low high)) = heard.Changed
heard_of (Ok (reply.Delivered token)) = heard.Changed
heard_of (Ok reply.Acked) = heard.Changed
heard_of (Ok (reply.Dropped sub token)) = heard.Changed
heard_of (Ok _) = heard.Other

-- the events of a turn take the place of those before
abbrev pub events_after : Result Reply Refusal → List Event → List Event
events_after (Ok r) old = told.events_after r old
events_after (Err refused) old = old

-- how an answer ends a loop, where it does
abbrev pub end_in : Heard → Option Over
end_in (heard.Ended end) = Some end
end_in _ = None

-- what a step answers that ended a loop so, or didn't
abbrev pub advance_of : Option Over → Advance
advance_of None = advance.Did
advance_of (Some end) = advance.Over end

-- and why a loop has ended by such an answer, where it has
abbrev pub over_of : Advance → Option Over
over_of (advance.Over end) = Some end
over_of _ = None
