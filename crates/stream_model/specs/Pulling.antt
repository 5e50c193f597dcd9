-- What a pulling agent asks (Orleans, Streaming, implementation details: pulling agents, queue cache).
use Rattle.std.specs.Prelude.{ℕ, suc, ◌+◌, ◌-◌, ◌*◌, min, max, Bool, true, ◌&&◌, not, List, [], ◌∷◌, ◌++◌, length, filter, Option, Some, None, unwrap_or, ◌==◌, nat_lt, nat_le, if◌then◌else◌}
use Rattle.stream_ident.specs.declared.event.Event.{Event}
use Rattle.stream_ident.specs.declared.ident.SubName.{SubName}
use Rattle.stream_ident.specs.declared.ident.SubName.TheVariants as name
use Rattle.stream_ident.specs.declared.token.Token.{Token}
use Rattle.stream_ident.specs.Blocks as blocks
use Rattle.stream_ident.specs.Blocks.{pull_size}
use Rattle.stream_ident.specs.Implying.{implied_by, implied_by_all, with_implied, Making}
use Rattle.stream_ident.specs.Token.{same_token}
use Rattle.stream_ident.specs.Words.{least_with, each_value}
use Rattle.stream_model.specs.declared.plain.Grain.{Grain}
use Rattle.stream_model.specs.declared.plain.PlainPartition.{PlainPartition}
use Rattle.stream_ident.specs.declared.rule.Rule.{Rule}
use Rattle.stream_ident.specs.declared.limits.TheConstants.{BLOCK_EVENTS, MAILBOX_PLACES}
use Rattle.stream_model.specs.declared.plain.Subscription.{Subscription}
use Rattle.stream_model.specs.Replies.{Reply}
use Rattle.stream_model.specs.declared.reply.Reply.TheVariants as reply
use Rattle.stream_model.specs.Positions.{token_at, between, next_position, sub_at, grain_at, with_sub, with_grain, new_subscription, is_outstanding, open_resumes, slowest, slowest_name, is_spent}

abbrev pub is_stale : PlainPartition → ℕ → Bool
is_stale p generation = not (generation == p.generation)

-- whole blocks from low on that end at or below both high and the slowest resume
abbrev pub free_blocks : PlainPartition → ℕ
free_blocks p = blocks.free_blocks p.low p.high (slowest p)

-- how many more events the cache takes
abbrev pub room : PlainPartition → ℕ
room p = BLOCK_EVENTS * p.blocks - (p.high - p.low)

-- the fewest blocks that make room for want events, or all that are free
abbrev pub drops : PlainPartition → ℕ → ℕ
drops p want = blocks.blocks_to_drop (room p) (free_blocks p) want

-- the record of a new subscription whose cursor is at this position
abbrev pub starting : ℕ → Making Subscription
starting position stream grain start = new_subscription stream grain start position

-- what a rule makes of an event: nothing, or a subscription that starts at the rule's batch
abbrev pub implied : ℕ → Event → Rule → List (SubName × Subscription)
implied position event rule = implied_by (starting position) event rule

-- what the rules make of the events, in order, repeats included
abbrev pub all_implied : List Rule → ℕ → List Event → List (SubName × Subscription)
all_implied rules position events = implied_by_all (starting position) rules events

-- the subscriptions, with those that the rules make of these events
abbrev pub subs_with : List Rule → ℕ → List (SubName × Subscription) → List Event → List (SubName × Subscription)
subs_with rules position subs events = with_implied (starting position) rules subs events

unfoldable pub pull_events : PlainPartition → ℕ → ℕ → List (SubName × Subscription) → PlainPartition × Reply
pull_events p low high subs =
    if nat_lt p.limits.subs (length subs) then (p, reply.TooMany)
    else (record p { low = low; high = high; subs = subs }, reply.Pulled (high - p.high) (token_at p low) (token_at p high))

unfoldable pub pull_count : PlainPartition → ℕ → ℕ → PlainPartition × Reply
pull_count p blocks count =
    if count == 0 then (p, reply.Pressed (unwrap_or (slowest_name p) (name.Explicit 0)))
    else pull_events p (p.low + BLOCK_EVENTS * blocks) (p.high + count) (subs_with p.rules p.high p.subs (between p.log p.high (p.high + count)))

unfoldable pub pull_want : PlainPartition → ℕ → PlainPartition × Reply
pull_want p want = pull_count p (drops p want) (min want (room p + BLOCK_EVENTS * drops p want))

unfoldable pub pull : PlainPartition → ℕ → ℕ → PlainPartition × Reply
pull p generation max_events =
    if is_stale p generation then (p, reply.StaleAgent p.generation)
    else if p.high == length p.log then (p, reply.Dry)
    else pull_want p (min (pull_size max_events) (length p.log - p.high))

-- the cursor has seen all that the cache has; with nothing outstanding the resume follows it
abbrev pub caught_up : PlainPartition → SubName → Subscription → Subscription
caught_up p s r =
    record r {
      cursor = max r.cursor p.high;
      resume = if is_outstanding p s r then r.resume else max r.cursor p.high;
    }

-- the grain, active, with one more delivery
abbrev pub woken : Grain → SubName → ℕ → Grain
woken st s position =
    record {
      activation = if st.active then st.activation else suc st.activation;
      active = true;
      mailbox = st.mailbox ++ record { sub = s; position = position } ∷ [];
      running = st.running;
    }

abbrev pub delivered : PlainPartition → SubName → Subscription → Grain → ℕ → PlainPartition
delivered p s r st position =
    record (with_grain (with_sub p s (record r { cursor = suc position })) r.grain (woken st s position)) {
      rises = if st.active then p.rises else suc p.rises;
    }

-- sixteen deliveries wait at most for a grain
unfoldable pub deliver_position : PlainPartition → SubName → Subscription → Grain → Option ℕ → PlainPartition × Reply
deliver_position p s r st None = (with_sub p s (caught_up p s r), reply.Nothing)
deliver_position p s r st (Some position) =
    if nat_le MAILBOX_PLACES (length st.mailbox) then (p, reply.MailboxFull)
    else if not st.active && is_spent p then (p, reply.Spent)
    else (delivered p s r st position, reply.Delivered (token_at p position))

unfoldable pub deliver_to : PlainPartition → SubName → Option Subscription → PlainPartition × Reply
deliver_to p s None = (p, reply.NoSuch)
deliver_to p s (Some r) =
    if not r.is_open then (p, reply.Closed)
    else deliver_position p s r (grain_at p r.grain) (next_position p r)

unfoldable pub deliver : PlainPartition → ℕ → SubName → PlainPartition × Reply
deliver p generation s =
    if is_stale p generation then (p, reply.StaleAgent p.generation)
    else deliver_to p s (sub_at p s)

-- the cursor back at the resume
abbrev pub rewound : Subscription → Subscription
rewound r = record r { cursor = r.resume }

unfoldable pub retry_of : PlainPartition → SubName → Option Subscription → PlainPartition × Reply
retry_of p s None = (p, reply.NoSuch)
retry_of p s (Some r) =
    if not r.is_open then (p, reply.Closed)
    else (with_sub p s (rewound r), reply.Rewound)

unfoldable pub retry : PlainPartition → ℕ → SubName → PlainPartition × Reply
retry p generation s =
    if is_stale p generation then (p, reply.StaleAgent p.generation)
    else retry_of p s (sub_at p s)

-- the handled positions with this token
abbrev pub handled_at : PlainPartition → Subscription → Token → List ℕ
handled_at p r token = filter (λ position. same_token (token_at p position) token) r.handled

abbrev pub acknowledged : Subscription → ℕ → Subscription
acknowledged r position =
    record r { resume = max r.resume (suc position); cursor = max r.cursor (max r.resume (suc position)) }

unfoldable pub ack_position : PlainPartition → SubName → Subscription → List ℕ → PlainPartition × Reply
ack_position p s r [] = (p, reply.NotHandled)
ack_position p s r (position ∷ positions) = (with_sub p s (acknowledged r position), reply.Acked)

unfoldable pub ack_of : PlainPartition → SubName → Token → Option Subscription → PlainPartition × Reply
ack_of p s token None = (p, reply.NoSuch)
ack_of p s token (Some r) =
    if not r.is_open then (p, reply.Closed)
    else ack_position p s r (handled_at p r token)

unfoldable pub ack : PlainPartition → ℕ → SubName → Token → PlainPartition × Reply
ack p generation s token =
    if is_stale p generation then (p, reply.StaleAgent p.generation)
    else ack_of p s token (sub_at p s)

-- the free blocks beyond those to keep; a part of a block counts as one
abbrev pub purges : PlainPartition → ℕ → ℕ
purges p keep = blocks.blocks_to_purge (blocks.blocks_for (p.high - p.low)) (free_blocks p) keep

unfoldable pub purge_to : PlainPartition → ℕ → PlainPartition × Reply
purge_to p low = (record p { low = low }, reply.Purged (token_at p low))

unfoldable pub purge : PlainPartition → ℕ → ℕ → PlainPartition × Reply
purge p generation keep =
    if is_stale p generation then (p, reply.StaleAgent p.generation)
    else purge_to p (p.low + BLOCK_EVENTS * purges p keep)

-- the cursor back at the resume, where the test holds
abbrev pub rewound_where : Bool → Subscription → Subscription
rewound_where b r = record r { cursor = if b then r.resume else r.cursor }

unfoldable pub move_to : PlainPartition → ℕ → ℕ → PlainPartition × Reply
move_to p silo position = (
  record p {
    generation = suc p.generation;
    silo = silo;
    rises = suc p.rises;
    low = position;
    high = position;
    subs = each_value (λ r. rewound_where r.is_open r) p.subs;
  },
  reply.Moved (suc p.generation) (token_at p position),
)

unfoldable pub move : PlainPartition → ℕ → PlainPartition × Reply
move p silo =
    if is_spent p then (p, reply.Spent)
    else move_to p silo (least_with p.high (open_resumes p))
