-- What a contract sees of a service, and what each of its calls does.
use Rattle.std.specs.Prelude.{◌≡◌, ◌⊎◌, ℕ, zero, suc, ◌≤◌, Bool, false, ◌||◌, List, [], ◌∷◌, length, Option, Some, None, Result, Ok, Err, if◌then◌else◌}
use Rattle.std.specs.declared.alloc.AllocError.{AllocError}
use Rattle.stream_ident.specs.declared.ident.GrainId.{GrainId}
use Rattle.stream_ident.specs.declared.ident.StreamId.{StreamId}
use Rattle.stream_ident.specs.declared.ident.SubName.{SubName}
use Rattle.stream_ident.specs.declared.limits.TheConstants.{MOST_SILOS}
use Rattle.stream_ident.specs.declared.token.Token.{Token}
use Rattle.stream_ident.specs.Event.{batch_token}
use Rattle.stream_ident.specs.Token.{token_lt}
use Rattle.stream_model.specs.declared.op.Op.{Op}
use Rattle.stream_model.specs.declared.op.Op.TheVariants as op
use Rattle.stream_model.specs.declared.op.Start.{Start}
use Rattle.stream_model.specs.declared.reply.Pending.{Pending}
use Rattle.stream_model.specs.Replies.{Reply}
use Rattle.queue_mapper.specs.Place.{place_of}
use Rattle.turnstile.specs.declared.history.Entry.{Entry}
use Rattle.turnstile.specs.declared.recorded.ProofHistory.{ProofHistory}
use Rattle.turnstile.specs.declared.turnstile.Refusal.{Refusal}
use Rattle.turnstile.specs.Recorded.{answered, recorded}
use Rattle.doorbells.specs.declared.loop_end.LoopEnd.{LoopEnd}
use Rattle.silo_loops.specs.Lines.{QueuePass, places}
use Rattle.step_core.specs.declared.figures.QueueFigures.{QueueFigures}
use Rattle.step_core.specs.declared.figures.SubscriptionFigures.{SubscriptionFigures}
use Rattle.step_core.specs.Figures.{figures_of, subscription_figures_of}
use Rattle.queue_callers.specs.Calls.{CallerCalls, CallerLooks, turnstiles}
use Rattle.queue_callers.specs.declared.finishing.Finished.{Finished}
use Rattle.silo_threads.specs.declared.cluster.SiloDown.{SiloDown}
use Rattle.silo_threads.specs.declared.cluster.SiloUp.{SiloUp}
use Rattle.silo_threads.specs.declared.config.Config.{Config}
use Rattle.silo_loops.specs.Silos.{SiloView}
use Rattle.silo_threads.specs.Clusters.{AnswersDown, AnswersUp, ClusterView, HasFinished, IsNew}
use Rattle.streams.specs.declared.answers.CallError.{CallError}
use Rattle.streams.specs.declared.answers.CallError.TheVariants as call
use Rattle.streams.specs.declared.answers.CloseError.TheVariants as close
use Rattle.streams.specs.declared.answers.Closed.{Closed}
use Rattle.streams.specs.declared.answers.PublishError.{PublishError}
use Rattle.streams.specs.declared.answers.PublishError.TheVariants as publish
use Rattle.streams.specs.declared.answers.SiloError.{SiloError}
use Rattle.streams.specs.declared.answers.SiloError.TheVariants as silos
use Rattle.streams.specs.declared.answers.StartFrom.{StartFrom}
use Rattle.streams.specs.declared.answers.StreamToken.{StreamToken}
use Rattle.streams.specs.declared.answers.SubscribeError.{SubscribeError}
use Rattle.streams.specs.declared.answers.SubscribeError.TheVariants as subscribe
use Rattle.streams.specs.declared.answers.Subscription.{Subscription}
use Rattle.streams.specs.declared.answers.UnsubscribeError.{UnsubscribeError}
use Rattle.streams.specs.declared.answers.UnsubscribeError.TheVariants as unsubscribe
use Rattle.streams.specs.Answers as read

-- a service: its cluster, and its caller
pub record ServiceView : Type 0 where
  pub cluster : ClusterView
  pub caller : List QueuePass

-- the caller has a pass at each queue of the cluster, of which there is one at least
pub record IsService (s : ServiceView) : Type 0 where
  pub some : 1 ≤ length s.caller
  pub here : turnstiles s.caller ≡ places s.cluster.operator.lines

-- a service over a new cluster
abbrev pub IsNewService : Config → ServiceView → Type 0
IsNewService config s = IsNew config s.cluster s.caller

-- a producer with passes at the turnstiles of the service's queues
abbrev pub IsProducerOf : ServiceView → List QueuePass → Type 0
IsProducerOf s passes = turnstiles passes ≡ turnstiles s.caller

-- the queue of a stream, for a caller that has these passes
abbrev pub queue_of : List QueuePass → StreamId → ℕ
queue_of passes stream = (place_of stream (length passes)).queue

-- one call at a queue, from whose answer the result is read
pub record Reads {T : Type 0} (read : Result Reply Refusal → T) (old : List QueuePass) (queue : ℕ) (op : Op) (result : T) (new : List QueuePass) : Type 0 where
  pub answer : Result Reply Refusal
  pub calls : CallerCalls old queue op answer new
  pub is : result ≡ read answer

-- one call at a queue, behind which its answer is read
pub record ReadsBehind (IsRead : List QueuePass → Result Reply Refusal → Type 0) (old : List QueuePass) (queue : ℕ) (op : Op) : Type 0 where
  pub answer : Result Reply Refusal
  pub mid : List QueuePass
  pub calls : CallerCalls old queue op answer mid
  pub is : IsRead mid answer

-- a loop had ended before, and nothing was asked
abbrev pub IsEnded : {T E S : Type 0} → (LoopEnd → E) → S → Result T E → S → Type 0
IsEnded {T} {E} {S} ended old result new = (end : LoopEnd) × (result ≡ Err (ended end)) × (new ≡ old)

-- A batch was published at its stream's queue, or was refused there. Or nothing was done: there was no memory for it, or
-- a loop had ended before.
abbrev pub Publishes : List QueuePass → StreamId → List (List ℕ) → Result StreamToken PublishError → List QueuePass → Type 0
Publishes old stream payloads result new =
    ReadsBehind (λ mid answer. read.ComesTo (read.published (queue_of old stream) stream answer) (read.full (queue_of old stream)) mid (queue_of old stream) result new) old (queue_of old stream) (op.Publish stream payloads)
    ⊎ (((result ≡ Err publish.Memory) × (new ≡ old)) ⊎ IsEnded publish.Ended old result new)

-- the token that the next batch gets behind so many, where a start token is above it
abbrev pub next_below : ℕ → Token → Option Token
next_below batches start = if token_lt (batch_token batches) start then Some (batch_token batches) else None

-- A start token that may not be above that of the next batch is compared with it at a look, by the figures of
-- the partition that all calls leave which the pass at the queue has seen then. Where there is none, nothing
-- is looked at.
abbrev pub SeesNext : List QueuePass → ℕ → Option Token → Option Token → List QueuePass → Type 0
SeesNext old queue checked result new =
    ((checked ≡ None) × (result ≡ None) × (new ≡ old))
    ⊎ ((start : Token) × (kept : QueueFigures) × (checked ≡ Some start) × CallerLooks old queue (λ p. kept ≡ figures_of p) new × (result ≡ next_below kept.batches start))

-- A subscription was asked for at its stream's queue, whose start isn't above what it may be. Or nothing was asked: the
-- start is above that, or is an event of another stream, or a loop had ended before.
abbrev pub Subscribes : List QueuePass → StreamId → GrainId → StartFrom → Result Subscription SubscribeError → List QueuePass → Type 0
Subscribes old stream grain given result new =
    ((start : Start) × (seen : List QueuePass) × (read.start_for stream given ≡ Some start) × SeesNext old (queue_of old stream) (read.checked_token given) None seen
    × ReadsBehind (λ mid answer. read.ComesTo (read.subscribed (queue_of old stream) answer) (read.too_many (queue_of old stream)) mid (queue_of old stream) result new) seen (queue_of old stream) (op.Subscribe stream grain start))
    ⊎ (((start : Start) × (next : Token) × (read.start_for stream given ≡ Some start) × SeesNext old (queue_of old stream) (read.checked_token given) (Some next) new × (result ≡ Err (subscribe.Ahead next)))
    ⊎ (((read.start_for stream given ≡ None) × (result ≡ Err subscribe.OtherStream) × (new ≡ old)) ⊎ IsEnded subscribe.Ended old result new))

-- no queue has this number, and nothing was asked
pub record HasNoQueue {T E : Type 0} (old : List QueuePass) (queue : ℕ) (e : E) (result : Result T E) (new : List QueuePass) : Type 0 where
  pub past : length old ≤ queue
  pub refused : result ≡ Err e
  pub same : new ≡ old

-- an unsubscribe was asked of the subscription's queue, or no queue has its number and nothing was asked
abbrev pub Unsubscribes : List QueuePass → Subscription → Result ℕ UnsubscribeError → List QueuePass → Type 0
Unsubscribes old sub result new =
    Reads read.unsubscribed old sub.queue (op.Unsubscribe (read.name_of sub)) result new ⊎ HasNoQueue old sub.queue unsubscribe.NoSuch result new

-- A queue was asked what is left to do there, or no queue has this number and nothing was asked.
abbrev pub AsksPending : List QueuePass → ℕ → Result (Option Pending) CallError → List QueuePass → Type 0
AsksPending old queue result new = Reads read.pending_of old queue op.Quiet result new ⊎ HasNoQueue old queue call.NoQueue result new

-- no queue has this number, and nothing was read
abbrev pub IsPast : List QueuePass → ℕ → List QueuePass → Type 0
IsPast old queue new = (length old ≤ queue) × (new ≡ old)

-- The figures of a queue are those of the partition that all calls leave which the pass there has seen at a
-- look. They are none where no queue has this number.
abbrev pub ReadsQueue : List QueuePass → ℕ → Option QueueFigures → List QueuePass → Type 0
ReadsQueue old queue (Some figures) new = CallerLooks old queue (λ p. figures ≡ figures_of p) new
ReadsQueue old queue None new = IsPast old queue new

-- The figures of a subscription are read at such a look too. They are none where it has no record there, or
-- no queue has this number.
abbrev pub ReadsSubscription : List QueuePass → ℕ → SubName → Option SubscriptionFigures → List QueuePass → Type 0
ReadsSubscription old queue sub result new = CallerLooks old queue (λ p. result ≡ subscription_figures_of p sub) new ⊎ ((result ≡ None) × IsPast old queue new)

-- From this queue on so many were told the rule, or as many until one refused it: then the result is that refusal, and
-- else it says whether it was new so far or at one of these.
abbrev pub TellsRule : ℕ → ℕ → Op → Bool → List QueuePass → Result Bool CallError → List QueuePass → Type 0
TellsRule zero queue op so_far old result new = (result ≡ Ok so_far) × (new ≡ old)
TellsRule (suc more) queue op so_far old result new =
    ((e : CallError) × Reads read.rule_added old queue op (Err e) new × (result ≡ Err e))
    ⊎ ((added : Bool) × (mid : List QueuePass) × Reads read.rule_added old queue op (Ok added) mid × TellsRule more (suc queue) op (so_far || added) mid result new)

-- queues were told a rule in order, all of them, or up to one that refused it
abbrev pub AddsRule : List QueuePass → List ℕ → List ℕ → Result Bool CallError → List QueuePass → Type 0
AddsRule old kind namespace result new = TellsRule (length old) 0 (op.AddRule kind namespace) false old result new

-- no silo has this number, and nothing was done
pub record HasNoSilo (s : ServiceView) (silo : ℕ) (result : Result Unit SiloError) (t : ServiceView) : Type 0 where
  pub past : MOST_SILOS ≤ silo
  pub refused : result ≡ Err silos.NoSilo
  pub same : t ≡ s

-- a silo came, or the cluster said why not
pub record Comes (s : ServiceView) (silo : ℕ) (result : Result Unit SiloError) (t : ServiceView) : Type 0 where
  pub answer : Result SiloUp AllocError
  pub answers : AnswersUp s.cluster silo answer t.cluster
  pub is : result ≡ read.came answer
  pub caller : t.caller ≡ s.caller

-- a silo came, or the cluster said why not, or nothing was done
abbrev pub ChangesUp : ServiceView → ℕ → Result Unit SiloError → ServiceView → Type 0
ChangesUp s silo result t = Comes s silo result t ⊎ (HasNoSilo s silo result t ⊎ IsEnded silos.Ended s result t)

-- a silo went, or the cluster said why not
pub record Goes (s : ServiceView) (silo : ℕ) (result : Result Unit SiloError) (t : ServiceView) : Type 0 where
  pub answer : Result SiloDown AllocError
  pub answers : AnswersDown s.cluster silo answer t.cluster
  pub is : result ≡ read.went answer
  pub caller : t.caller ≡ s.caller

-- a silo went, or the cluster said why not, or nothing was done
abbrev pub ChangesDown : ServiceView → ℕ → Result Unit SiloError → ServiceView → Type 0
ChangesDown s silo result t = Goes s silo result t ⊎ HasNoSilo s silo result t

-- the calls of a history that only proofs see
abbrev pub calls_of : ProofHistory Op Reply → List (Entry Op Reply)
calls_of h = answered (recorded h.asked) (recorded h.replies)

-- The cluster has ended with this caller, whose passes were taken in beside those that had joined it. What is
-- left, its report or why there is none, is what it hands back. Or memory ran out for its end, and nothing is
-- left.
abbrev pub Closes : ServiceView → Closed → Type 0
Closes s closed =
    ((back : List SiloView) × (finished : Finished (ProofHistory Op Reply)) × HasFinished calls_of s.cluster (s.caller ∷ []) back finished × read.IsLeft finished closed)
    ⊎ read.IsGone close.Memory closed
