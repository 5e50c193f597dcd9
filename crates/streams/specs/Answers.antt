-- How what the calls of a service answer is read from the replies of a queue and of a cluster.
use Rattle.std.specs.Prelude.{◌≡◌, ◌⊎◌, ℕ, Bool, true, false, List, [], Option, Some, None, Result, Ok, Err, if◌then◌else◌, slice_get}
use Rattle.std.specs.Option.{option_map}
use Rattle.std.specs.declared.alloc.AllocError.{AllocError}
use Rattle.stream_ident.specs.declared.ident.SubName.{SubName}
use Rattle.stream_ident.specs.declared.ident.SubName.TheVariants.{Explicit}
use Rattle.stream_ident.specs.declared.ident.StreamId.{StreamId}
use Rattle.stream_ident.specs.declared.token.Token.{Token}
use Rattle.stream_ident.specs.Name.{same_stream}
use Rattle.stream_model.specs.declared.op.Start.{Start}
use Rattle.stream_model.specs.declared.op.Start.TheVariants as start
use Rattle.stream_model.specs.declared.plain.PlainPartition.{PlainPartition}
use Rattle.stream_model.specs.declared.reply.Pending.{Pending}
use Rattle.stream_model.specs.Replies.{Reply}
use Rattle.stream_model.specs.declared.reply.Reply.TheVariants as reply
use Rattle.turnstile.specs.declared.turnstile.Refusal.{Refusal}
use Rattle.turnstile.specs.declared.turnstile.Refusal.TheVariants.{HistoryFull, Memory}
use Rattle.step_core.specs.declared.figures.QueueFigures.{QueueFigures}
use Rattle.step_core.specs.declared.figures.SubscriptionFigures.{SubscriptionFigures}
use Rattle.step_core.specs.Figures.{figures_of, subscription_figures_of}
use Rattle.silo_loops.specs.Lines.{QueuePass}
use Rattle.queue_callers.specs.Calls.{CallerLooks}
use Rattle.queue_callers.specs.declared.finishing.Finished.{Finished}
use Rattle.queue_callers.specs.declared.finishing.Finished.TheVariants as finished
use Rattle.queue_callers.specs.declared.draining.Drained.{Drained}
use Rattle.queue_callers.specs.declared.draining.Drained.TheVariants as drained
use Rattle.silo_threads.specs.declared.cluster.SiloDown.{SiloDown}
use Rattle.silo_threads.specs.declared.cluster.SiloDown.TheVariants as down
use Rattle.silo_threads.specs.declared.cluster.SiloUp.{SiloUp}
use Rattle.silo_threads.specs.declared.cluster.SiloUp.TheVariants as up
use Rattle.streams.specs.declared.answers.CallError.{CallError}
use Rattle.streams.specs.declared.answers.CallError.TheVariants as call
use Rattle.streams.specs.declared.answers.CloseError.{CloseError}
use Rattle.streams.specs.declared.answers.CloseError.TheVariants as close
use Rattle.streams.specs.declared.answers.Closed.{Closed}
use Rattle.streams.specs.declared.answers.PublishError.{PublishError}
use Rattle.streams.specs.declared.answers.PublishError.TheVariants as publish
use Rattle.streams.specs.declared.answers.SettleError.{SettleError}
use Rattle.streams.specs.declared.answers.SettleError.TheVariants as settle
use Rattle.streams.specs.declared.answers.SiloError.{SiloError}
use Rattle.streams.specs.declared.answers.SiloError.TheVariants as silo
use Rattle.streams.specs.declared.answers.StartFrom.{StartFrom}
use Rattle.streams.specs.declared.answers.StartFrom.TheVariants as from
use Rattle.streams.specs.declared.answers.StreamToken.{StreamToken}
use Rattle.streams.specs.declared.answers.SubscribeError.{SubscribeError}
use Rattle.streams.specs.declared.answers.SubscribeError.TheVariants as subscribe
use Rattle.streams.specs.declared.answers.Subscription.{Subscription}
use Rattle.streams.specs.declared.answers.UnsubscribeError.{UnsubscribeError}
use Rattle.streams.specs.declared.answers.UnsubscribeError.TheVariants as unsubscribe

-- a subscription's name at its queue
abbrev pub name_of : Subscription → SubName
name_of s = Explicit s.number

-- the start that the queue of a stream is asked for; none at an event of another stream
abbrev pub start_for : StreamId → StartFrom → Option Start
start_for stream from.Latest = Some start.Latest
start_for stream (from.At first) = if same_stream first.stream stream then Some (start.At first.token) else None
start_for stream (from.Token token) = Some (start.At token)
start_for stream (from.Later token) = Some (start.At token)

-- a start's token, where it may not be above that of the next batch
abbrev pub checked_token : StartFrom → Option Token
checked_token (from.At first) = Some first.token
checked_token (from.Token token) = Some token
checked_token _ = None

-- What an answer says. One that says nothing is that a limit of the queue was met: then the queue was looked
-- at behind the call, and its figures, of the partition that all calls leave which the pass has seen then,
-- say how much of the limit there is.
abbrev pub ComesTo : {T E : Type 0} → Option (Result T E) → (QueueFigures → E) → List QueuePass → ℕ → Result T E → List QueuePass → Type 0
ComesTo {T} {E} said met old queue result new =
    ((said ≡ Some result) × (new ≡ old))
    ⊎ ((said ≡ None) × (kept : QueueFigures) × CallerLooks old queue (λ p. kept ≡ figures_of p) new × (result ≡ Err (met kept)))

-- the first event of a batch; the other reply to a publish says that the log is full
abbrev pub published : ℕ → StreamId → Result Reply Refusal → Option (Result StreamToken PublishError)
published queue stream (Ok (reply.Published seq)) = Some (Ok (record { stream = stream; token = record { seq = seq; idx = 0 } }))
published queue stream (Ok reply.BadBatch) = Some (Err publish.BadBatch)
published queue stream (Ok other) = None
published queue stream (Err HistoryFull) = Some (Err (publish.HistoryFull queue))
published queue stream (Err Memory) = Some (Err publish.Memory)

-- a full log
abbrev pub full : ℕ → QueueFigures → PublishError
full queue kept = publish.QueueFull queue kept.events kept.limits.events

-- a subscription at a queue; the other reply to a subscribe says that there are too many
abbrev pub subscribed : ℕ → Result Reply Refusal → Option (Result Subscription SubscribeError)
subscribed queue (Ok (reply.Subscribed number)) = Some (Ok (record { queue = queue; number = number }))
subscribed queue (Ok (reply.Miss requested low high)) = Some (Err (subscribe.Miss low high))
subscribed queue (Ok other) = None
subscribed queue (Err HistoryFull) = Some (Err (subscribe.HistoryFull queue))
subscribed queue (Err Memory) = Some (Err subscribe.Memory)

-- too many subscriptions
abbrev pub too_many : ℕ → QueueFigures → SubscribeError
too_many queue kept = subscribe.TooMany queue kept.subscriptions kept.limits.subs

-- how many events a subscription has handled; the other reply to the unsubscribe of an explicit one says that there is
-- none
abbrev pub unsubscribed : Result Reply Refusal → Result ℕ UnsubscribeError
unsubscribed (Ok (reply.Unsubscribed handled)) = Ok handled
unsubscribed (Ok reply.Closed) = Err unsubscribe.Closed
unsubscribed (Ok other) = Err unsubscribe.NoSuch
unsubscribed (Err HistoryFull) = Err unsubscribe.Limit
unsubscribed (Err Memory) = Err unsubscribe.Memory

-- the figures of one of these queues, none where there are fewer
abbrev pub figures_in : List PlainPartition → ℕ → Option QueueFigures
figures_in partitions queue = option_map figures_of (slice_get partitions queue)

abbrev pub subscription_at : Option PlainPartition → SubName → Option SubscriptionFigures
subscription_at None s = None
subscription_at (Some p) s = subscription_figures_of p s

-- the figures of a subscription at one of these queues, none where there are fewer, or it has no record there
abbrev pub subscription_in : List PlainPartition → ℕ → SubName → Option SubscriptionFigures
subscription_in partitions queue s = subscription_at (slice_get partitions queue) s

-- whether a rule is new at a queue; the other reply to a rule says that there are too many
abbrev pub rule_added : Result Reply Refusal → Result Bool CallError
rule_added (Ok (reply.RuleAdded from)) = Ok true
rule_added (Ok reply.RuleThere) = Ok false
rule_added (Ok other) = Err call.Limit
rule_added (Err HistoryFull) = Err call.Limit
rule_added (Err Memory) = Err call.Memory

-- what is left to do at a queue; the other reply to a look says that it is quiet
abbrev pub pending_of : Result Reply Refusal → Result (Option Pending) CallError
pending_of (Ok (reply.NotQuiet why)) = Ok (Some why)
pending_of (Ok other) = Ok None
pending_of (Err HistoryFull) = Err call.Limit
pending_of (Err Memory) = Err call.Memory

abbrev pub settled : Result Drained AllocError → Result Unit SettleError
settled (Ok drained.Quiet) = Ok tt
settled (Ok drained.NotQuiet) = Err settle.NotQuiet
settled (Ok drained.Ended) = Err settle.Ended
settled (Ok drained.Limit) = Err settle.Limit
settled (Err e) = Err settle.Memory

abbrev pub came : Result SiloUp AllocError → Result Unit SiloError
came (Ok up.Up) = Ok tt
came (Ok up.Already) = Err silo.Already
came (Ok up.Limit) = Err silo.Limit
came (Ok up.Halted) = Err silo.Halted
came (Err e) = Err silo.Memory

abbrev pub went : Result SiloDown AllocError → Result Unit SiloError
went (Ok down.Down) = Ok tt
went (Ok down.NotLive) = Err silo.NotLive
went (Ok down.LastSilo) = Err silo.LastSilo
went (Ok down.Limit) = Err silo.Limit
went (Ok down.Halted) = Err silo.Halted
went (Err e) = Err silo.Memory

-- there is no report, for this reason, and no partition
pub record IsGone (why : CloseError) (closed : Closed) : Type 0 where
  pub report : closed.report ≡ Err why
  pub none : closed.partitions.items ≡ []

-- What is left of a service whose cluster has ended so: its report, or why there is none, and the partitions wherever the
-- cluster hands them back.
abbrev pub IsLeft : {H : Type 0} → Finished H → Closed → Type 0
IsLeft (finished.Report text traces) closed = closed ≡ record { report = Ok text; partitions = traces.partitions }
IsLeft (finished.NotQuiet queue why traces) closed = closed ≡ record { report = Err (close.NotQuiet queue why); partitions = traces.partitions }
IsLeft (finished.RoundLimit traces) closed = closed ≡ record { report = Err close.RoundLimit; partitions = traces.partitions }
IsLeft (finished.Limit traces) closed = closed ≡ record { report = Err close.Limit; partitions = traces.partitions }
IsLeft (finished.NotAll queue missing) closed = IsGone (close.NotAll queue missing) closed
IsLeft finished.InUse closed = IsGone close.InUse closed
