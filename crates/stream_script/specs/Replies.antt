-- The text of each reply.
use Rattle.std.specs.Prelude.{ℕ, List, [], ◌∷◌, ◌++◌, Option, Some, None, codes}
use Rattle.std.specs.Fmt.{decimal}
use Rattle.std.specs.List.{flat_map}
use Rattle.stream_ident.specs.declared.event.Event.{Event}
use Rattle.stream_ident.specs.declared.token.Token.{Token}
use Rattle.stream_ident.specs.Token.{token_text}
use Rattle.stream_model.specs.declared.drain_end.DrainEnd.{DrainEnd}
use Rattle.stream_model.specs.declared.drain_end.DrainEnd.TheVariants as ending
use Rattle.stream_model.specs.declared.reply.Pending.{Pending}
use Rattle.stream_model.specs.declared.reply.Pending.TheVariants as pending
use Rattle.stream_model.specs.Replies.{Reply}
use Rattle.stream_model.specs.declared.reply.Reply.TheVariants as reply
use Rattle.stream_script.specs.Pieces.{Text, spelling}
use Rattle.stream_script.specs.Spelling.{grain_text, name_text}

-- an event of a turn
abbrev pub event_text : Event → List ℕ
event_text event = codes " event " ++ token_text event.token ++ 32 ∷ spelling (Text event.payload)

-- what a due subscription has to acknowledge
abbrev pub ack_text : Option Token → List ℕ
ack_text None = codes "-"
ack_text (Some token) = token_text token

abbrev pub pending_text : Pending → List ℕ
pending_text pending.Behind = codes "behind"
pending_text (pending.Deliverable sub) = codes "deliverable " ++ name_text sub
pending_text (pending.Waiting grain) = codes "waiting " ++ grain_text grain
pending_text (pending.Running grain) = codes "running " ++ grain_text grain

-- the text of a reply
unfoldable pub reply_text : Reply → List ℕ
reply_text (reply.Published seq) = codes "published " ++ decimal seq
reply_text reply.QueueFull = codes "queue-full"
reply_text reply.BadBatch = codes "bad-batch"
reply_text (reply.Subscribed number) = codes "subscribed " ++ decimal number
reply_text (reply.Miss requested low high) =
    codes "miss " ++ token_text requested ++ codes " low " ++ token_text low ++ codes " high " ++ token_text high
reply_text reply.TooMany = codes "too-many"
reply_text (reply.Unsubscribed handled) = codes "unsubscribed " ++ decimal handled
reply_text reply.NoSuch = codes "no-such"
reply_text reply.Closed = codes "closed"
reply_text reply.Implicit = codes "implicit"
reply_text (reply.RuleAdded from) = codes "rule-added " ++ decimal from
reply_text reply.RuleThere = codes "rule-there"
reply_text (reply.Pulled count low high) =
    codes "pulled " ++ decimal count ++ codes " low " ++ token_text low ++ codes " high " ++ token_text high
reply_text (reply.Pressed by) = codes "pressed " ++ name_text by
reply_text reply.Dry = codes "dry"
reply_text (reply.StaleAgent now) = codes "stale-agent " ++ decimal now
reply_text (reply.Delivered token) = codes "delivered " ++ token_text token
reply_text reply.Nothing = codes "nothing"
reply_text reply.MailboxFull = codes "mailbox-full"
reply_text reply.Rewound = codes "rewound"
reply_text reply.Acked = codes "acked"
reply_text reply.NotHandled = codes "not-handled"
reply_text (reply.Purged low) = codes "purged low " ++ token_text low
reply_text (reply.Turn sub activation turn events note) =
    codes "turn " ++ decimal turn ++ codes " sub " ++ name_text sub ++ codes " activation " ++ decimal activation
    ++ flat_map event_text events ++ codes " note " ++ decimal note
reply_text (reply.Dropped sub token) = codes "dropped " ++ name_text sub ++ 32 ∷ token_text token
reply_text reply.Empty = codes "empty"
reply_text reply.Busy = codes "busy"
reply_text (reply.Committed sub token) = codes "committed " ++ name_text sub ++ 32 ∷ token_text token
reply_text reply.Stale = codes "stale"
reply_text (reply.Deactivated lost) = codes "deactivated " ++ decimal lost
reply_text reply.NotActive = codes "not-active"
reply_text (reply.Moved generation low) = codes "moved " ++ decimal generation ++ codes " low " ++ token_text low
reply_text (reply.Next grain) = codes "next " ++ grain_text grain
reply_text reply.NoneReady = codes "none-ready"
reply_text (reply.DueSub sub ack) = codes "due " ++ name_text sub ++ codes " ack " ++ ack_text ack
reply_text reply.NoneDue = codes "none-due"
reply_text reply.Spent = codes "spent"
reply_text reply.IsQuiet = codes "quiet"
reply_text (reply.NotQuiet why) = pending_text why

-- the line of a reply: the queue, a space, the text
abbrev pub reply_line : ℕ → Reply → List ℕ
reply_line queue told = decimal queue ++ 32 ∷ reply_text told ++ 10 ∷ []

-- the text of the end of a drain
unfoldable pub drain_text : DrainEnd → List ℕ
drain_text (ending.Drained turns) = codes "drained " ++ decimal turns
drain_text (ending.Stuck grain) = codes "stuck " ++ grain_text grain
drain_text ending.TooMany = codes "too-many"
drain_text ending.Spent = codes "spent"

-- the line of a drain: the queue, a space, the text
abbrev pub drain_line : ℕ → DrainEnd → List ℕ
drain_line queue end = decimal queue ++ 32 ∷ drain_text end ++ 10 ∷ []
