-- A reply as an operation gives it, and one whose turn has something else of the events.
use Rattle.std.specs.Prelude.{List}
use Rattle.stream_ident.specs.declared.event.Event.{Event}
use Rattle.stream_model.specs.declared.reply.Reply as declared
use Rattle.stream_model.specs.declared.reply.Reply.TheVariants as reply

abbrev pub Reply : Type 0
Reply = declared.Reply (List Event)

-- a reply with other events of its turn
abbrev pub with_events : {E F : Type 0} → (E → F) → declared.Reply E → declared.Reply F
with_events shown (reply.Published seq) = reply.Published seq
with_events shown reply.QueueFull = reply.QueueFull
with_events shown reply.BadBatch = reply.BadBatch
with_events shown (reply.Subscribed number) = reply.Subscribed number
with_events shown (reply.Miss requested low high) = reply.Miss requested low high
with_events shown reply.TooMany = reply.TooMany
with_events shown (reply.Unsubscribed handled) = reply.Unsubscribed handled
with_events shown reply.NoSuch = reply.NoSuch
with_events shown reply.Closed = reply.Closed
with_events shown reply.Implicit = reply.Implicit
with_events shown (reply.RuleAdded from) = reply.RuleAdded from
with_events shown reply.RuleThere = reply.RuleThere
with_events shown (reply.Pulled count low high) = reply.Pulled count low high
with_events shown (reply.Pressed by) = reply.Pressed by
with_events shown reply.Dry = reply.Dry
with_events shown (reply.StaleAgent now) = reply.StaleAgent now
with_events shown (reply.Delivered token) = reply.Delivered token
with_events shown reply.Nothing = reply.Nothing
with_events shown reply.MailboxFull = reply.MailboxFull
with_events shown reply.Rewound = reply.Rewound
with_events shown reply.Acked = reply.Acked
with_events shown reply.NotHandled = reply.NotHandled
with_events shown (reply.Purged low) = reply.Purged low
with_events shown (reply.Dropped sub token) = reply.Dropped sub token
with_events shown reply.Empty = reply.Empty
with_events shown reply.Busy = reply.Busy
with_events shown (reply.Committed sub token) = reply.Committed sub token
with_events shown reply.Stale = reply.Stale
with_events shown (reply.Deactivated lost) = reply.Deactivated lost
with_events shown reply.NotActive = reply.NotActive
with_events shown (reply.Moved generation low) = reply.Moved generation low
with_events shown (reply.Next grain) = reply.Next grain
with_events shown reply.NoneReady = reply.NoneReady
with_events shown (reply.DueSub sub ack) = reply.DueSub sub ack
with_events shown reply.NoneDue = reply.NoneDue
with_events shown reply.Spent = reply.Spent
with_events shown reply.IsQuiet = reply.IsQuiet
with_events shown (reply.NotQuiet why) = reply.NotQuiet why
with_events shown (reply.Turn sub activation turn events note) = reply.Turn sub activation turn (shown events) note

-- a reply that isn't a turn
abbrev pub IsNoTurn : {E : Type 0} → declared.Reply E → Type 0
IsNoTurn (reply.Turn sub activation turn events note) = ⊥
IsNoTurn _ = Unit {0}
