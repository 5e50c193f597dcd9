-- What holds of every legal history, from the definitions alone: of every list of operations, whatever is
-- repeated, stale, moved or deactivated. No law says that anything ever happens. A history stands as it is
-- told, its oldest entry first.
use Rattle.std.specs.Prelude.{◌≡◌, ◌≢◌, ◌⊎◌, ℕ, ◌+◌, ◌-◌, ◌*◌, ◌/◌, ◌≤◌, ◌<◌, min, max, Bool, true, false, ◌&&◌, not, List, [], ◌∷◌, ◌++◌, length, map, take, drop, zip, All, AllPairs, Some, None, is_some, ◌==◌}
use Rattle.std.specs.List.{AllByRecursion, list_any}
use Rattle.stream_ident.specs.declared.event.Event.{Event}
use Rattle.stream_ident.specs.declared.ident.GrainId.{GrainId}
use Rattle.stream_ident.specs.declared.ident.StreamId.{StreamId}
use Rattle.stream_ident.specs.declared.ident.SubName.{SubName}
use Rattle.stream_ident.specs.declared.ident.SubName.TheVariants as name
use Rattle.stream_ident.specs.declared.token.Token.{Token}
use Rattle.stream_ident.specs.Name.{same_grain}
use Rattle.stream_ident.specs.Token.{token_lt}
use Rattle.stream_model.specs.declared.limits.Limits.{Limits}
use Rattle.stream_model.specs.declared.op.Op.{Op}
use Rattle.stream_model.specs.declared.op.Op.TheVariants.{Subscribe, Begin, Commit, Deactivate}
use Rattle.stream_model.specs.declared.op.Start.{Start}
use Rattle.stream_model.specs.declared.op.Start.TheVariants.{Latest, At}
use Rattle.stream_model.specs.declared.plain.Delivery.{Delivery}
use Rattle.stream_model.specs.declared.plain.PlainPartition.{PlainPartition}
use Rattle.stream_model.specs.declared.plain.Subscription.{Subscription}
use Rattle.stream_model.specs.Replies.{Reply}
use Rattle.stream_model.specs.declared.reply.Reply.TheVariants.{Subscribed, Miss, Turn, Committed, Closed, Deactivated, IsQuiet}
use Rattle.stream_model.specs.Bounds.{AreLimits, IsWithinLimits}
use Rattle.stream_model.specs.History.{Entry, binding_of, handled_events, is_closed, last_note, low_told, owed_events, published_events, times_begun, times_committed}
use Rattle.stream_model.specs.Looks.{quiet}
use Rattle.stream_model.specs.Positions.{events_at, grain_at, slowest, sub_at}
use Rattle.stream_model.specs.Pulling.{drops, purges, room}
use Rattle.stream_model.specs.Step.{Leads, Stands, after_steps, replies_of, step}
use Rattle.stream_ident.specs.Words.{IsPrefixOf}
use Rattle.stream_ident.specs.declared.limits.TheConstants.{BLOCK_EVENTS, MOST_BLOCKS, TURN_EVENTS}

-- P holds of each legal history and of the partition that it leaves
abbrev pub Always : (List Entry → PlainPartition → Type 0) → Type 0
Always P =
    (blocks : ℕ) (limits : Limits) (history : List Entry) (p : PlainPartition) → Stands blocks limits history p → P history p

-- P holds of each entry of a legal history, with the entries before it
abbrev pub AtEach : (List Entry → Entry → Type 0) → Type 0
AtEach P =
    (blocks : ℕ) (limits : Limits) (before : List Entry) (e : Entry) (later : List Entry) (p : PlainPartition)
    → Stands blocks limits (before ++ e ∷ later) p → P before e

-- What a subscription has handled is a prefix of what it is owed: in the order of the queue, without a
-- gap, nothing twice.
abbrev pub HandledInOrder : Type 0
HandledInOrder = Always (λ history p. (s : SubName) → IsPrefixOf (handled_events history s) (owed_events history s))

-- of any two of these events the later one has the greater token, and so no two have the same
abbrev pub TokensRiseAlong : List Event → Type 0
TokensRiseAlong events =
    AllPairs (λ earlier later. token_lt earlier.token later.token ≡ true) events
    × AllPairs (λ earlier later. earlier.token ≢ later.token) events

-- Tokens rise along what is owed and what is handled: nothing is owed twice, and nothing is handled twice.
-- Not said: that an event is in one turn alone.
abbrev pub NoneTwice : Type 0
NoneTwice =
    Always (λ history p. (s : SubName) → TokensRiseAlong (owed_events history s) × TokensRiseAlong (handled_events history s))

-- Handled events stay the same after the unsubscribe. A turn may still run; its commit is answered `Closed`.
abbrev pub NoneAfterClose : Type 0
NoneAfterClose =
    (blocks : ℕ) (limits : Limits) (before later : List Entry) (p : PlainPartition) → Stands blocks limits (before ++ later) p
    → (s : SubName) → is_closed before s ≡ true
    → handled_events (before ++ later) s ≡ handled_events before s

-- A commit has the number of exactly one turn before it.
abbrev pub IsBegunOnce : List Entry → Entry → Type 0
IsBegunOnce before e =
    (grain : GrainId) (activation turn note : ℕ) (s : SubName) (token : Token)
    → e.op ≡ Commit grain activation turn note → e.reply ≡ Committed s token → times_begun before turn ≡ 1

-- A commit's number is that of exactly one turn begun before it. Not said: that the turn was of that grain.
abbrev pub CommitsBegun : Type 0
CommitsBegun = AtEach IsBegunOnce

-- No turn's number is given or committed twice. A lost event may be handed out again.
abbrev pub CommittedOnce : Type 0
CommittedOnce = Always (λ history p. (turn : ℕ) → (times_begun history turn ≤ 1) × (times_committed history turn ≤ 1))

-- 1 to 16 events, which are those that the subscription is owed next, with the note of its last commit
abbrev pub IsNextTurn : List Entry → SubName → List Event → ℕ → Type 0
IsNextTurn before s events note =
    (1 ≤ length events) × (length events ≤ TURN_EVENTS)
    × (events ≡ take (length events) (drop (length (handled_events before s)) (owed_events before s)))
    × (note ≡ last_note before s)

-- A turn has 1 to 16 events, the next that its subscription is owed, and the note of its last commit.
abbrev pub TurnsInOrder : Type 0
TurnsInOrder =
    AtEach (λ before e. (s : SubName) (activation turn note : ℕ) (events : List Event)
    → e.reply ≡ Turn s activation turn events note → IsNextTurn before s events note)

-- an entry begins the turn of a grain with this number
abbrev pub begins : GrainId → ℕ → Op → Reply → Bool
begins grain number (Begin g max_events) (Turn s activation turn events note) = same_grain grain g && (turn == number)
begins grain number _ _ = false

-- an entry ends it: by its commit, also where the subscription is closed, or by a deactivation of the grain
abbrev pub ends : GrainId → ℕ → Op → Reply → Bool
ends grain number (Commit g activation turn note) (Committed s token) = same_grain grain g && (turn == number)
ends grain number (Commit g activation turn note) Closed = same_grain grain g && (turn == number)
ends grain number (Deactivate g) (Deactivated lost) = same_grain grain g
ends grain number _ _ = false

-- Between the begins of two turns of a grain the first was ended, by its commit or a deactivation.
abbrev pub OneTurnAtATime : Type 0
OneTurnAtATime =
    (blocks : ℕ) (limits : Limits) (before : List Entry) (first : Entry) (between : List Entry) (second : Entry) (later : List Entry) (p : PlainPartition)
    → Stands blocks limits (before ++ first ∷ (between ++ second ∷ later)) p
    → (grain : GrainId) (turn next : ℕ) → begins grain turn first.op first.reply ≡ true → begins grain next second.op second.reply ≡ true
    → list_any (λ e. ends grain turn e.op e.reply) between ≡ true

-- n is the greatest number that has P
abbrev pub IsGreatest : (ℕ → Type 0) → ℕ → Type 0
IsGreatest P n = P n × ((m : ℕ) → P m → m ≤ n)

-- So many deliveries at the front of a mailbox may be one turn: no more than these, of this subscription
-- alone, each at a greater position than those before it.
pub record IsTurnFront (mailbox : List Delivery) (most : ℕ) (s : SubName) (n : ℕ) : Type 0 where
  pub within : n ≤ most
  pub waiting : n ≤ length mailbox
  pub own : All (λ d. d.sub ≡ s) (take n mailbox)
  pub rising : AllPairs (λ earlier later. earlier.position < later.position) (take n mailbox)

-- A turn is the longest front of the mailbox that may be one.
abbrev pub TurnsAreLongest : Type 0
TurnsAreLongest =
    (p : PlainPartition) (grain : GrainId) (max_events : ℕ) (s : SubName) (activation turn note : ℕ) (events : List Event)
    → (step p (Begin grain max_events)).1 ≡ Turn s activation turn events note
    → (events ≡ events_at p.log (map (λ d. d.position) (take (length events) (grain_at p grain).mailbox)))
    × IsGreatest (IsTurnFront (grain_at p grain).mailbox (min TURN_EVENTS (max 1 max_events)) s) (length events)

-- The log is what was published.
abbrev pub LogIsPublished : Type 0
LogIsPublished = Always (λ history p. p.log ≡ published_events history)

-- Tokens rise along what was published, so that no two events of a partition have one token.
abbrev pub TokensRise : Type 0
TokensRise = Always (λ history p. TokensRiseAlong (published_events history))

-- A record has the handled events, the stream and the start that the history says.
abbrev pub RecordsAgree : Type 0
RecordsAgree =
    Always (λ history p. (s : SubName) (r : Subscription) → sub_at p s ≡ Some r
    → (events_at p.log r.handled ≡ handled_events history s)
    × (binding_of history s ≡ Some (record { stream = r.stream; start = r.start })))

-- A record is open unless its subscription was unsubscribed, and has the last commit's note.
abbrev pub RecordsAreOpen : Type 0
RecordsAreOpen =
    Always (λ history p. (s : SubName) (r : Subscription) → sub_at p s ≡ Some r
    → (r.is_open ≡ not (is_closed history s)) × (r.note ≡ last_note history s))

-- No two records have one name, and no two grains.
abbrev pub NamesDiffer : Type 0
NamesDiffer = Always (λ history p. AllPairs (λ one other. one.0 ≢ other.0) p.subs × AllPairs (λ one other. one.0 ≢ other.0) p.grains)

-- whether a subscribe was answered with this number
abbrev pub gives : ℕ → Op → Reply → Bool
gives number (Subscribe stream grain start) (Subscribed given) = number == given
gives number _ _ = false

abbrev pub is_given : List Entry → ℕ → Bool
is_given history number = list_any (λ e. gives number e.op e.reply) history

-- An explicit name has a record exactly where a subscribe gave its number. Without one it is owed nothing and
-- has handled nothing.
abbrev pub UnknownHasNoRecord : Type 0
UnknownHasNoRecord =
    Always (λ history p. (number : ℕ) → (is_some (sub_at p (name.Explicit number)) ≡ is_given history number)
    × (is_given history number ≡ false
    → (owed_events history (name.Explicit number) ≡ []) × (handled_events history (name.Explicit number) ≡ [])))

-- No number of a subscription is given twice. Not said: that numbers rise by one.
abbrev pub NumbersAreNew : Type 0
NumbersAreNew =
    AtEach (λ before e. (stream : StreamId) (grain : GrainId) (start : Start) (number : ℕ)
    → e.op ≡ Subscribe stream grain start → e.reply ≡ Subscribed number → is_given before number ≡ false)

-- A start token is refused exactly where it is below the low token that was told last, and the refusal
-- carries both.
abbrev pub IsMissBelowLow : List Entry → Entry → Type 0
IsMissBelowLow before e =
    (stream : StreamId) (grain : GrainId) (token : Token) → e.op ≡ Subscribe stream grain (At token)
    → (token_lt token (low_told before) ≡ true → (high : Token) × (e.reply ≡ Miss token (low_told before) high))
    × (token_lt token (low_told before) ≡ false → (requested low high : Token) → e.reply ≢ Miss requested low high)

-- A start token is a miss exactly where it is below the low token last told. Not said: the high token of the
-- refusal.
abbrev pub MissesBelowLow : Type 0
MissesBelowLow = AtEach IsMissBelowLow

-- A start at the latest is never a miss. Not said: that it is accepted.
abbrev pub LatestIsNeverMissed : Type 0
LatestIsNeverMissed =
    AtEach (λ before e. (stream : StreamId) (grain : GrainId) → e.op ≡ Subscribe stream grain Latest
    → (requested low high : Token) → e.reply ≢ Miss requested low high)

-- The cache lies within what was published and holds no more events than its blocks do.
abbrev pub CacheInBounds : Type 0
CacheInBounds =
    (blocks : ℕ) (limits : Limits) (history : List Entry) (p : PlainPartition) → Stands blocks limits history p
    → (p.low ≤ p.high) × (p.high ≤ length (published_events history)) × (p.high - p.low ≤ BLOCK_EVENTS * blocks)

-- A partition keeps the limits that it began with, and its lists and numbers never pass them.
abbrev pub LimitsAreKept : Type 0
LimitsAreKept =
    (blocks : ℕ) (limits : Limits) (history : List Entry) (p : PlainPartition) → blocks ≤ MOST_BLOCKS → AreLimits limits
    → Stands blocks limits history p → (p.limits ≡ limits) × IsWithinLimits p

-- What an open subscription is owed and hasn't handled isn't below the low token.
abbrev pub OwedIsKept : Type 0
OwedIsKept =
    Always (λ history p. (s : SubName) → is_closed history s ≡ false
    → AllByRecursion (λ event. token_lt event.token (low_told history) ≡ false)
    (drop (length (handled_events history s)) (owed_events history s)))

-- In a quiet partition each open subscription has handled all that it is owed.
abbrev pub QuietIsDone : Type 0
QuietIsDone =
    Always (λ history p. quiet p ≡ IsQuiet → (s : SubName) → is_closed history s ≡ false
    → handled_events history s ≡ owed_events history s)

-- In a quiet partition an implicit name without a record is owed nothing.
abbrev pub QuietOwesNoOther : Type 0
QuietOwesNoOther =
    Always (λ history p. quiet p ≡ IsQuiet → (kind : List ℕ) (stream : StreamId) → sub_at p (name.Implicit kind stream) ≡ None
    → owed_events history (name.Implicit kind stream) ≡ [])

-- n is the least number that has P
abbrev pub IsLeast : (ℕ → Type 0) → ℕ → Type 0
IsLeast P n = P n × ((m : ℕ) → P m → n ≤ m)

-- the block that begins after so many ends past high or past the slowest resume
abbrev pub IsKept : PlainPartition → ℕ → Type 0
IsKept p blocks = min p.high (slowest p) < p.low + BLOCK_EVENTS * blocks + BLOCK_EVENTS

-- A pull drops the fewest blocks that make room, or as many as it may, and none that ends past the cache's
-- end or the slowest resume.
abbrev pub DropsAreLeast : Type 0
DropsAreLeast =
    (p : PlainPartition) (want : ℕ) → IsLeast (λ blocks. (want ≤ room p + BLOCK_EVENTS * blocks) ⊎ IsKept p blocks) (drops p want)

-- so many blocks and parts of a block are in the cache after so many were dropped
abbrev pub blocks_after : PlainPartition → ℕ → ℕ
blocks_after p blocks = (p.high - (p.low + BLOCK_EVENTS * blocks) + (BLOCK_EVENTS - 1)) / BLOCK_EVENTS

-- A purge drops the fewest blocks that leave as many as asked, or as many as it may, and none that ends past
-- the cache's end or the slowest resume.
abbrev pub PurgesAreLeast : Type 0
PurgesAreLeast =
    (p : PlainPartition) (keep : ℕ) → IsLeast (λ blocks. (blocks_after p blocks ≤ keep) ⊎ IsKept p blocks) (purges p keep)

-- these operations, each with its reply
abbrev pub entries_of : List Op → List Reply → List Entry
entries_of ops replies = map (λ told. record { op = told.0; reply = told.1 }) (zip ops replies)

-- What leads on from a legal history makes a legal history, whether it is told by its entries or by the
-- operations that were run.
pub record HistoriesGrow : Type 0 where
  pub led : (blocks : ℕ) (limits : Limits) (before later : List Entry) (p q : PlainPartition)
      → Stands blocks limits before p → Leads p later q → Stands blocks limits (before ++ later) q
  pub run : (blocks : ℕ) (limits : Limits) (before : List Entry) (p : PlainPartition) (ops : List Op)
      → Stands blocks limits before p → Stands blocks limits (before ++ entries_of ops (replies_of p ops)) (after_steps p ops)

-- Every front of a legal history is legal, and the rest leads on from what the front leaves.
abbrev pub FrontsAreLegal : Type 0
FrontsAreLegal =
    (blocks : ℕ) (limits : Limits) (before later : List Entry) (q : PlainPartition) → Stands blocks limits (before ++ later) q
    → (p : PlainPartition) × Stands blocks limits before p × Leads p later q

-- In this history each subscription has handled a prefix of what it is owed, whose tokens rise, and nothing
-- after its unsubscribe. A commit's number is that of exactly one turn begun before it, and no turn is
-- committed twice. A start token is a miss exactly where it is below the low token last told.
pub record IsOneHistory (history : List Entry) : Type 0 where
  pub in_order : (s : SubName) → IsPrefixOf (handled_events history s) (owed_events history s)
  pub once : (s : SubName) → TokensRiseAlong (owed_events history s)
  pub closed : (before later : List Entry) → history ≡ before ++ later → (s : SubName) → is_closed before s ≡ true
      → handled_events history s ≡ handled_events before s
  pub begun : (before : List Entry) (e : Entry) (later : List Entry) → history ≡ before ++ e ∷ later → IsBegunOnce before e
  pub committed : (turn : ℕ) → times_committed history turn ≤ 1
  pub misses : (before : List Entry) (e : Entry) (later : List Entry) → history ≡ before ++ e ∷ later → IsMissBelowLow before e

-- Each legal history is `IsOneHistory`: it keeps `HandledInOrder`, `NoneTwice`, `NoneAfterClose`,
-- `CommitsBegun` and `MissesBelowLow`, and commits no turn twice.
abbrev pub OneHistory : Type 0
OneHistory = Always (λ history p. IsOneHistory history)
