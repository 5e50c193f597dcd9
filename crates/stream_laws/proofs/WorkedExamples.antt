-- Worked examples: what a new partition replies to a few operations, by computation.
use Rattle.stream_laws.proofs.Prelude.{◌≡◌, ℕ, ◌-◌, Bool, true, false, List, [], ◌∷◌, ◌++◌, length, map, Option, Some, None, option_map, refl, range_with_len, Event, GrainId, StreamId, SubName, Explicit, Implicit, Token, Entry, handled_events, is_closed, last_note, owed_events, published_events, empty, sub_at, Reply, after_steps, replies_of, Limits, Op, Publish, Subscribe, Unsubscribe, AddRule, Pull, Deliver, Retry, Begin, Commit, Deactivate, Move, Latest, At, PlainPartition, Subscription}
use Rattle.std.specs.Prelude.{codes, reverse}
use Rattle.stream_model.specs.declared.drain_end.DrainEnd.TheVariants.{Drained}
use Rattle.stream_model.specs.declared.reply.Reply.TheVariants as reply
use Rattle.stream_model.specs.Draining.{drain, drain_all, after_pull, serve_each, serve, deliver_all, after_deliver, acknowledge, deliver_once_more, take_turn, take_turns}
use Rattle.stream_model.specs.Publishing.{publish, subscribe, subscribe_at, unsubscribe, unsubscribe_from, add_rule}
use Rattle.stream_model.specs.Pulling.{pull, pull_want, pull_count, pull_events, deliver, deliver_to, deliver_position, retry, retry_of, ack, ack_of, ack_position, move, move_to}
use Rattle.stream_model.specs.Step.{step}
use Rattle.stream_model.specs.Turns.{begin, begin_in, begin_front, begin_for, begin_turn, commit, commit_running, commit_for, deactivate, deactivate_in}
use Rattle.stream_laws.specs.Laws.{entries_of, is_given}
use Prim.Native.String.{String}

-- `unfolding steps` lets `refl` compute the steps of a partition
steps : Unit {0}
unfolding step publish subscribe subscribe_at unsubscribe unsubscribe_from add_rule pull pull_want pull_count pull_events deliver deliver_to deliver_position retry retry_of ack ack_of ack_position begin begin_in begin_front begin_for begin_turn commit commit_running commit_for deactivate deactivate_in move move_to
steps = tt

-- and `unfolding steps drains` its drains
drains : Unit {0}
unfolding drain drain_all after_pull serve_each serve deliver_all after_deliver acknowledge deliver_once_more take_turn take_turns
drains = tt

-- the greatest limits
abbrev greatest : Limits
greatest = record { events = 1000000; subs = 10000; rules = 64; rises = 4000000 }

-- Names and payloads are written as ASCII texts, of which `codes` is the list of the bytes.
abbrev stream : String → String → StreamId
stream namespace key = record { namespace = codes namespace; key = codes key }

abbrev grain : String → String → GrainId
grain kind key = record { kind = codes kind; key = codes key }

-- the subscription that a rule makes of a stream
abbrev implicit : String → String → String → SubName
implicit kind namespace key = Implicit (codes kind) (stream namespace key)

abbrev token : ℕ → ℕ → Token
token seq idx = record { seq = seq; idx = idx }

-- a batch of one payload
abbrev batch : String → List (List ℕ)
batch payload = codes payload ∷ []

abbrev event : StreamId → Token → String → Event
event stream token payload = record { stream = stream; token = token; payload = codes payload }

-- an operation and its reply
infix 70 ◌⇒◌
abbrev ◌⇒◌ : Op → Reply → Entry
op ⇒ answer = record { op = op; reply = answer }

abbrev operations : List Entry → List Op
operations entries = map (λ e. e.op) entries

abbrev replies : List Entry → List Reply
replies entries = map (λ e. e.reply) entries

-- the partition after these operations
abbrev after : PlainPartition → List Entry → PlainPartition
after p entries = after_steps p (operations entries)

-- and after a drain
abbrev drained : PlainPartition → PlainPartition
drained p = (drain p).0.now

-- Deliveries that a deactivated grain loses are made again, the first event first, and the grain's next
-- turn is of another activation.
abbrev lost_deliveries : List Entry
lost_deliveries =
    Subscribe (stream "o" "k") (grain "g" "x") Latest ⇒ reply.Subscribed 1
    ∷ Publish (stream "o" "k") (batch "a") ⇒ reply.Published 0
    ∷ Publish (stream "o" "k") (batch "b") ⇒ reply.Published 1
    ∷ Pull 0 32 ⇒ reply.Pulled 2 (token 0 0) (token 2 0)
    ∷ Deliver 0 (Explicit 1) ⇒ reply.Delivered (token 0 0)
    ∷ Deliver 0 (Explicit 1) ⇒ reply.Delivered (token 1 0)
    ∷ Deactivate (grain "g" "x") ⇒ reply.Deactivated 2
    ∷ Deliver 0 (Explicit 1) ⇒ reply.Delivered (token 0 0)
    ∷ Begin (grain "g" "x") 1 ⇒ reply.Turn (Explicit 1) 2 1 (event (stream "o" "k") (token 0 0) "a" ∷ []) 0
    ∷ []

pub lost_deliveries_come_again : replies_of (empty 4 greatest) (operations lost_deliveries) ≡ replies lost_deliveries
unfolding steps
lost_deliveries_come_again = refl

-- A cache of one block is full of events that are not yet acknowledged, and a drain moves it on. Then a
-- start below the low token is a miss, and one at the low token or from the latest on is none.
abbrev full_cache : List Entry
full_cache =
    Subscribe (stream "o" "k") (grain "g" "x") Latest ⇒ reply.Subscribed 1
    ∷ map (λ seq. Publish (stream "o" "k") (batch "e") ⇒ reply.Published seq) (range_with_len 0 65)
    ++ Pull 0 64 ⇒ reply.Pulled 64 (token 0 0) (token 64 0)
    ∷ Pull 0 64 ⇒ reply.Pressed (Explicit 1)
    ∷ []

abbrev starts_in_the_past : List Entry
starts_in_the_past =
    Subscribe (stream "o" "k") (grain "g" "y") (At (token 0 0)) ⇒ reply.Miss (token 0 0) (token 64 0) (token 65 0)
    ∷ Subscribe (stream "o" "k") (grain "g" "y") (At (token 64 0)) ⇒ reply.Subscribed 2
    ∷ Subscribe (stream "o" "k") (grain "g" "y") Latest ⇒ reply.Subscribed 3
    ∷ []

pub start_below_low_is_a_miss :
    (replies_of (empty 1 greatest) (operations full_cache) ≡ replies full_cache)
    × ((drain (after (empty 1 greatest) full_cache)).1 ≡ Some (Drained 65))
    × (replies_of (drained (after (empty 1 greatest) full_cache)) (operations starts_in_the_past) ≡ replies starts_in_the_past)
unfolding steps drains
start_below_low_is_a_miss = (refl, refl, refl)

-- A rule makes a subscription of the stream's later events. After a move the subscription is the same one:
-- the event that it has handled isn't handled again, and only the event of the other stream is left.
abbrev rule_and_move : List Entry
rule_and_move =
    Publish (stream "o" "a") (batch "1") ⇒ reply.Published 0
    ∷ AddRule (codes "log") (codes "o") ⇒ reply.RuleAdded 1
    ∷ Publish (stream "o" "a") (batch "2") ⇒ reply.Published 1
    ∷ Publish (stream "o" "b") (batch "3") ⇒ reply.Published 2
    ∷ Pull 0 32 ⇒ reply.Pulled 3 (token 0 0) (token 3 0)
    ∷ Deliver 0 (implicit "log" "o" "a") ⇒ reply.Delivered (token 1 0)
    ∷ Begin (grain "log" "a") 1 ⇒ reply.Turn (implicit "log" "o" "a") 1 1 (event (stream "o" "a") (token 1 0) "2" ∷ []) 0
    ∷ Commit (grain "log" "a") 1 1 1 ⇒ reply.Committed (implicit "log" "o" "a") (token 1 0)
    ∷ Move 1 ⇒ reply.Moved 1 (token 0 0)
    ∷ []

abbrev refusals_of_implicit : List Entry
refusals_of_implicit =
    Unsubscribe (implicit "log" "o" "a") ⇒ reply.Implicit
    ∷ AddRule (codes "log") (codes "o") ⇒ reply.RuleThere
    ∷ []

pub implicit_subscription_outlives_a_move :
    (replies_of (empty 4 greatest) (operations rule_and_move) ≡ replies rule_and_move)
    × ((drain (after (empty 4 greatest) rule_and_move)).1 ≡ Some (Drained 1))
    × (replies_of (drained (after (empty 4 greatest) rule_and_move)) (operations refusals_of_implicit) ≡ replies refusals_of_implicit)
unfolding steps drains
implicit_subscription_outlives_a_move = (refl, refl, refl)

-- One event from its publish to its commit: the event that the subscription is owed is the one that it
-- has handled.
abbrev one_event : List Entry
one_event =
    Subscribe (stream "o" "k") (grain "g" "x") Latest ⇒ reply.Subscribed 1
    ∷ Publish (stream "o" "k") (batch "a") ⇒ reply.Published 0
    ∷ Pull 0 32 ⇒ reply.Pulled 1 (token 0 0) (token 1 0)
    ∷ Deliver 0 (Explicit 1) ⇒ reply.Delivered (token 0 0)
    ∷ Begin (grain "g" "x") 1 ⇒ reply.Turn (Explicit 1) 1 1 (event (stream "o" "k") (token 0 0) "a" ∷ []) 0
    ∷ Commit (grain "g" "x") 1 1 1 ⇒ reply.Committed (Explicit 1) (token 0 0)
    ∷ []

pub one_event_from_publish_to_commit :
    (replies_of (empty 4 greatest) (operations one_event) ≡ replies one_event)
    × (handled_events (reverse one_event) (Explicit 1) ≡ event (stream "o" "k") (token 0 0) "a" ∷ [])
    × (owed_events (reverse one_event) (Explicit 1) ≡ event (stream "o" "k") (token 0 0) "a" ∷ [])
unfolding steps
one_event_from_publish_to_commit = (refl, refl, refl)

-- A run is told by its operations and their replies.
pub one_event_told : entries_of (operations one_event) (replies_of (empty 4 greatest) (operations one_event)) ≡ one_event
unfolding steps
one_event_told = refl

-- The record of an unsubscribed name is closed and keeps the note of its last commit; that of another name
-- is open, and a number that no subscribe was answered with has none.
abbrev closed_beside_open : List Entry
closed_beside_open =
    Subscribe (stream "o" "k") (grain "g" "x") Latest ⇒ reply.Subscribed 1
    ∷ Publish (stream "o" "k") (batch "a") ⇒ reply.Published 0
    ∷ Pull 0 32 ⇒ reply.Pulled 1 (token 0 0) (token 1 0)
    ∷ Deliver 0 (Explicit 1) ⇒ reply.Delivered (token 0 0)
    ∷ Begin (grain "g" "x") 1 ⇒ reply.Turn (Explicit 1) 1 1 (event (stream "o" "k") (token 0 0) "a" ∷ []) 0
    ∷ Commit (grain "g" "x") 1 1 7 ⇒ reply.Committed (Explicit 1) (token 0 0)
    ∷ Subscribe (stream "o" "k") (grain "g" "x") Latest ⇒ reply.Subscribed 2
    ∷ Unsubscribe (Explicit 1) ⇒ reply.Unsubscribed 1
    ∷ []

-- whether the record of a name is open, and its note
abbrev state_of : PlainPartition → SubName → Option (Bool × ℕ)
state_of p s = option_map (λ (r : Subscription). (r.is_open, r.note)) (sub_at p s)

-- the same by the history alone
abbrev told_of : List Entry → SubName → Bool × ℕ
told_of history s = (is_closed (reverse history) s, last_note (reverse history) s)

pub closed_record_keeps_its_note :
    (replies_of (empty 4 greatest) (operations closed_beside_open) ≡ replies closed_beside_open)
    × (map (state_of (after (empty 4 greatest) closed_beside_open)) (Explicit 1 ∷ Explicit 2 ∷ Explicit 3 ∷ []) ≡ Some (false, 7) ∷ Some (true, 0) ∷ None ∷ [])
    × (map (told_of closed_beside_open) (Explicit 1 ∷ Explicit 2 ∷ Explicit 3 ∷ []) ≡ (true, 7) ∷ (false, 0) ∷ (false, 0) ∷ [])
    × (map (is_given closed_beside_open) (1 ∷ 2 ∷ 3 ∷ []) ≡ true ∷ true ∷ false ∷ [])
unfolding steps
closed_record_keeps_its_note = (refl, refl, refl, refl)

-- A turn has no more events than were asked for, and of those that wait it takes all up to the first of
-- another subscription or the first that repeats one.
abbrev turns_of_a_mailbox : List Entry
turns_of_a_mailbox =
    Subscribe (stream "o" "k") (grain "g" "x") Latest ⇒ reply.Subscribed 1
    ∷ Subscribe (stream "o" "k") (grain "g" "x") Latest ⇒ reply.Subscribed 2
    ∷ Publish (stream "o" "k") (codes "a" ∷ codes "b" ∷ codes "c" ∷ []) ⇒ reply.Published 0
    ∷ Publish (stream "o" "k") (batch "d") ⇒ reply.Published 1
    ∷ Pull 0 32 ⇒ reply.Pulled 4 (token 0 0) (token 2 0)
    ∷ Deliver 0 (Explicit 1) ⇒ reply.Delivered (token 0 0)
    ∷ Deliver 0 (Explicit 1) ⇒ reply.Delivered (token 0 1)
    ∷ Deliver 0 (Explicit 1) ⇒ reply.Delivered (token 0 2)
    ∷ Deliver 0 (Explicit 2) ⇒ reply.Delivered (token 0 0)
    ∷ Retry 0 (Explicit 2) ⇒ reply.Rewound
    ∷ Deliver 0 (Explicit 2) ⇒ reply.Delivered (token 0 0)
    ∷ Deliver 0 (Explicit 1) ⇒ reply.Delivered (token 1 0)
    ∷ Begin (grain "g" "x") 1 ⇒ reply.Turn (Explicit 1) 1 1 (event (stream "o" "k") (token 0 0) "a" ∷ []) 0
    ∷ Commit (grain "g" "x") 1 1 1 ⇒ reply.Committed (Explicit 1) (token 0 0)
    ∷ Begin (grain "g" "x") 16 ⇒ reply.Turn (Explicit 1) 1 2 (event (stream "o" "k") (token 0 1) "b" ∷ event (stream "o" "k") (token 0 2) "c" ∷ []) 1
    ∷ Commit (grain "g" "x") 1 2 2 ⇒ reply.Committed (Explicit 1) (token 0 2)
    ∷ Begin (grain "g" "x") 16 ⇒ reply.Turn (Explicit 2) 1 3 (event (stream "o" "k") (token 0 0) "a" ∷ []) 0
    ∷ []

pub turn_ends_at_another_or_a_repeat : replies_of (empty 4 greatest) (operations turns_of_a_mailbox) ≡ replies turns_of_a_mailbox
unfolding steps
turn_ends_at_another_or_a_repeat = refl

-- While a turn of a grain runs no other begins; after a deactivation, and after a commit that is answered
-- Closed, the next one does.
abbrev turn_after_turn : List Entry
turn_after_turn =
    Subscribe (stream "o" "k") (grain "g" "x") Latest ⇒ reply.Subscribed 1
    ∷ Subscribe (stream "o" "k") (grain "g" "x") Latest ⇒ reply.Subscribed 2
    ∷ Publish (stream "o" "k") (batch "a") ⇒ reply.Published 0
    ∷ Pull 0 32 ⇒ reply.Pulled 1 (token 0 0) (token 1 0)
    ∷ Deliver 0 (Explicit 1) ⇒ reply.Delivered (token 0 0)
    ∷ Begin (grain "g" "x") 1 ⇒ reply.Turn (Explicit 1) 1 1 (event (stream "o" "k") (token 0 0) "a" ∷ []) 0
    ∷ Begin (grain "g" "x") 1 ⇒ reply.Busy
    ∷ Deactivate (grain "g" "x") ⇒ reply.Deactivated 1
    ∷ Deliver 0 (Explicit 1) ⇒ reply.Delivered (token 0 0)
    ∷ Begin (grain "g" "x") 1 ⇒ reply.Turn (Explicit 1) 2 2 (event (stream "o" "k") (token 0 0) "a" ∷ []) 0
    ∷ Unsubscribe (Explicit 1) ⇒ reply.Unsubscribed 0
    ∷ Deliver 0 (Explicit 2) ⇒ reply.Delivered (token 0 0)
    ∷ Begin (grain "g" "x") 1 ⇒ reply.Busy
    ∷ Commit (grain "g" "x") 2 2 1 ⇒ reply.Closed
    ∷ Begin (grain "g" "x") 1 ⇒ reply.Turn (Explicit 2) 2 3 (event (stream "o" "k") (token 0 0) "a" ∷ []) 0
    ∷ []

pub turn_begins_after_the_last : replies_of (empty 4 greatest) (operations turn_after_turn) ≡ replies turn_after_turn
unfolding steps
turn_begins_after_the_last = refl

-- Of the operations on a mailbox, the tokens that were published rise within a batch and from one to the next, and the
-- cache reaches from the first of them to the last. Before the first operation it is empty, and a cache of
-- one block may have all its 64 events.
pub cache_reaches_what_was_published :
    (map (λ (published : Event). published.token) (published_events (reverse turns_of_a_mailbox)) ≡ token 0 0 ∷ token 0 1 ∷ token 0 2 ∷ token 1 0 ∷ [])
    × ((after (empty 4 greatest) turns_of_a_mailbox).low ≡ 0)
    × ((after (empty 4 greatest) turns_of_a_mailbox).high ≡ length (published_events (reverse turns_of_a_mailbox)))
    × ((empty 4 greatest).low ≡ (empty 4 greatest).high)
    × ((after (empty 1 greatest) full_cache).high - (after (empty 1 greatest) full_cache).low ≡ 64)
unfolding steps
cache_reaches_what_was_published = (refl, refl, refl, refl, refl)
