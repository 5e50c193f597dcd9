-- What a history says, from its operations and replies alone. Here, and only here and in proofs, a history
-- stands with its newest entry first, so that the entries before an entry are the rest of the list.
-- `History` says the same of a history as it is told.
use Rattle.std.specs.Prelude.{ℕ, suc, Bool, false, ◌&&◌, ◌||◌, List, [], ◌∷◌, ◌++◌, Option, Some, None, filter, ◌==◌, if◌then◌else◌}
use Rattle.stream_ident.specs.declared.event.Event.{Event}
use Rattle.stream_ident.specs.declared.ident.StreamId.{StreamId}
use Rattle.stream_ident.specs.declared.ident.SubName.{SubName}
use Rattle.stream_ident.specs.declared.ident.SubName.TheVariants as name
use Rattle.stream_ident.specs.declared.token.Token.{Token}
use Rattle.stream_ident.specs.Name.{same_name}
use Rattle.stream_ident.specs.Event.{batch_token, events_of, is_owed}
use Rattle.stream_ident.specs.SubName.{same_sub}
use Rattle.stream_model.specs.declared.op.Op.{Op}
use Rattle.stream_model.specs.declared.op.Op.TheVariants.{Publish, Subscribe, Unsubscribe, AddRule, Commit}
use Rattle.stream_model.specs.declared.op.Start.{Start}
use Rattle.stream_model.specs.declared.op.Start.TheVariants.{Latest, At}
use Rattle.stream_model.specs.Replies.{Reply}
use Rattle.stream_model.specs.declared.reply.Reply.TheVariants.{Published, Subscribed, Unsubscribed, RuleAdded, Pulled, Purged, Moved, Turn, Committed}
use Rattle.stream_ident.specs.Words.{or_else}

-- an operation and its reply
pub record Entry : Type 0 where
  pub op : Op
  pub reply : Reply

abbrev pub published_after : List Event → Op → Reply → List Event
published_after events (Publish stream payloads) (Published seq) = events ++ events_of stream seq 0 payloads
published_after events _ _ = events

-- the events that were published
abbrev pub published_events : List Entry → List Event
published_events [] = []
published_events (e ∷ before) = published_after (published_events before) e.op e.reply

abbrev pub batches_after : ℕ → Op → Reply → ℕ
batches_after n (Publish stream payloads) (Published seq) = suc n
batches_after n _ _ = n

-- how many batches were accepted
abbrev pub batch_count : List Entry → ℕ
batch_count [] = 0
batch_count (e ∷ before) = batches_after (batch_count before) e.op e.reply

-- what a subscription is owed: a stream, from a token on
pub record Binding : Type 0 where
  pub stream : StreamId
  pub start : Token

-- the start token of a subscription that is made after n batches
abbrev pub start_token : Start → ℕ → Token
start_token Latest n = batch_token n
start_token (At token) n = token

-- what a rule, added after n batches, binds a name to (Orleans, Streaming: implicit subscriptions)
abbrev pub bound_by_rule : SubName → List ℕ → List ℕ → ℕ → Option Binding
bound_by_rule (name.Explicit number) kind namespace n = None
bound_by_rule (name.Implicit own_kind stream) kind namespace n =
    if same_name own_kind kind && same_name stream.namespace namespace then Some (record { stream = stream; start = batch_token n }) else None

abbrev pub binding_after : SubName → Option Binding → ℕ → Op → Reply → Option Binding
binding_after s old n (Subscribe stream grain start) (Subscribed number) =
    or_else old (if same_sub s (name.Explicit number) then Some (record { stream = stream; start = start_token start n }) else None)
binding_after s old n (AddRule kind namespace) (RuleAdded from) = or_else old (bound_by_rule s kind namespace n)
binding_after s old n _ _ = old

-- the stream and the start of a name, where it is known
abbrev pub binding_of : List Entry → SubName → Option Binding
binding_of [] s = None
binding_of (e ∷ before) s = binding_after s (binding_of before s) (batch_count before) e.op e.reply

abbrev pub owed_of : List Event → Option Binding → List Event
owed_of events None = []
owed_of events (Some b) = filter (λ event. is_owed b.stream b.start event) events

-- the events that a subscription is owed, in the order of the queue
abbrev pub owed_events : List Entry → SubName → List Event
owed_events history s = owed_of (published_events history) (binding_of history s)

abbrev pub turn_after : ℕ → List Event → Reply → List Event
turn_after k old (Turn sub activation turn events note) = if turn == k then events else old
turn_after k old _ = old

-- the events of the turn with this number
abbrev pub turn_events : List Entry → ℕ → List Event
turn_events [] k = []
turn_events (e ∷ before) k = turn_after k (turn_events before k) e.reply

abbrev pub handled_after : SubName → (ℕ → List Event) → List Event → Op → Reply → List Event
handled_after s turns old (Commit grain activation turn note) (Committed sub token) =
    if same_sub s sub then old ++ turns turn else old
handled_after s turns old _ _ = old

-- the events that a subscription has handled: those of its committed turns
abbrev pub handled_events : List Entry → SubName → List Event
handled_events [] s = []
handled_events (e ∷ before) s = handled_after s (turn_events before) (handled_events before s) e.op e.reply

abbrev pub closed_after : SubName → Bool → Op → Reply → Bool
closed_after s old (Unsubscribe sub) (Unsubscribed count) = old || same_sub s sub
closed_after s old _ _ = old

-- whether a subscription was unsubscribed
abbrev pub is_closed : List Entry → SubName → Bool
is_closed [] s = false
is_closed (e ∷ before) s = closed_after s (is_closed before s) e.op e.reply

abbrev pub note_after : SubName → ℕ → Op → Reply → ℕ
note_after s old (Commit grain activation turn note) (Committed sub token) = if same_sub s sub then note else old
note_after s old _ _ = old

-- the note of a subscription's last commit, 0 before the first
abbrev pub last_note : List Entry → SubName → ℕ
last_note [] s = 0
last_note (e ∷ before) s = note_after s (last_note before s) e.op e.reply

abbrev pub low_after : Token → Reply → Token
low_after old (Pulled count low high) = low
low_after old (Purged low) = low
low_after old (Moved generation low) = low
low_after old _ = old

-- the low token that was told last
abbrev pub low_told : List Entry → Token
low_told [] = batch_token 0
low_told (e ∷ before) = low_after (low_told before) e.reply

abbrev pub begun_after : ℕ → ℕ → Reply → ℕ
begun_after k n (Turn sub activation turn events note) = if turn == k then suc n else n
begun_after k n _ = n

-- how often a turn of this number was handed out
abbrev pub times_begun : List Entry → ℕ → ℕ
times_begun [] k = 0
times_begun (e ∷ before) k = begun_after k (times_begun before k) e.reply

abbrev pub committed_after : ℕ → ℕ → Op → Reply → ℕ
committed_after k n (Commit grain activation turn note) (Committed sub token) = if turn == k then suc n else n
committed_after k n _ _ = n

-- how often a turn of this number was committed
abbrev pub times_committed : List Entry → ℕ → ℕ
times_committed [] k = 0
times_committed (e ∷ before) k = committed_after k (times_committed before k) e.op e.reply
