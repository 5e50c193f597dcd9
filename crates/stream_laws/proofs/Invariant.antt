-- What holds of a history and the partition that it leaves.
use Rattle.stream_laws.proofs.Prelude.{◌≡◌, ℕ, ◌<◌, ◌≤◌, Bool, true, false, ◌&&◌, not, List, [], ◌∷◌, ◌++◌, length, map, get_or, Option, Some, None, AllByRecursion, batch_token, is_owed, same_name, token_lt, or_else, Event, GrainId, StreamId, SubName, TURN_EVENTS, Rule, Token, Binding, bound_by_rule, events_at, grain_at, low_token, no_event, running_in, sub_at, waiting_in, Reply, Op, Delivery, PlainPartition, RunningTurn, Subscription}
use Rattle.stream_ident.specs.declared.ident.SubName.TheVariants as name
use Rattle.stream_laws.proofs.Marks.{IsClear, IsInTurn, IsServed}
use Rattle.stream_laws.proofs.Summary.{Promise, Summary, after}

-- which events of a log are of a stream and not before a start
abbrev pub marks_of : StreamId → Token → List Event → List Bool
marks_of stream start log = map (λ event. is_owed stream start event) log

-- the positions of a subscription that run and that wait
abbrev pub running_of : PlainPartition → SubName → Subscription → List ℕ
running_of p s r = running_in s (grain_at p r.grain).running

abbrev pub waiting_of : PlainPartition → SubName → Subscription → List ℕ
waiting_of p s r = waiting_in s (grain_at p r.grain).mailbox

-- a record agrees with the history, where these of its positions run and wait
pub record SubFits (t : Summary) (log : List Event) (low : ℕ) (s : SubName) (r : Subscription) (running waiting : List ℕ) : Type 0 where
  pub binding : t.binding s ≡ Some (record { stream = r.stream; start = r.start })
  pub handled : t.handled s ≡ events_at log r.handled
  pub closed : t.closed s ≡ not r.is_open
  pub note : t.note s ≡ r.note
  pub in_turn : IsInTurn (marks_of r.stream r.start log) r.handled running
  pub served : r.is_open ≡ true → IsServed (marks_of r.stream r.start log) r.handled (running ++ waiting) r.resume r.cursor low

abbrev pub SubsFit : Summary → PlainPartition → Type 0
SubsFit t p =
    (s : SubName) (r : Subscription) → sub_at p s ≡ Some r
    → SubFits t p.log p.low s r (running_of p s r) (waiting_of p s r)

-- a name without a record: nothing that it is owed is below high
pub record IsUnmade (t : Summary) (log : List Event) (high : ℕ) (s : SubName) : Type 0 where
  pub handled : t.handled s ≡ []
  pub closed : t.closed s ≡ false
  pub note : t.note s ≡ 0
  pub unseen : (b : Binding) → t.binding s ≡ Some b → IsClear (marks_of b.stream b.start log) 0 high

abbrev pub UnmadeFit : Summary → PlainPartition → Type 0
UnmadeFit t p = (s : SubName) → sub_at p s ≡ None → IsUnmade t p.log p.high s

-- the log is what was published, and its tokens rise
pub record LogFits (t : Summary) (p : PlainPartition) : Type 0 where
  pub log : p.log ≡ t.events
  pub batches : p.batches ≡ t.batches
  pub low : t.low ≡ low_token p
  pub low_high : p.low ≤ p.high
  pub high_end : p.high ≤ length p.log
  pub rising : (a b : ℕ) → a < b → b < length p.log → token_lt (get_or p.log a no_event).token (get_or p.log b no_event).token ≡ true
  pub ended : (q : ℕ) → q < length p.log → token_lt (get_or p.log q no_event).token (batch_token p.batches) ≡ true

-- what the first rule for a name binds it to
abbrev pub bound_by_rules : SubName → List Rule → Option Binding
bound_by_rules s [] = None
bound_by_rules s (rule ∷ rules) = or_else (bound_by_rule s rule.kind rule.namespace rule.from) (bound_by_rules s rules)

-- no other rule of the list has this rule's kind and namespace
abbrev pub IsOtherRule : Rule → Rule → Type 0
IsOtherRule rule other = (same_name rule.kind other.kind && same_name rule.namespace other.namespace) ≡ false

abbrev pub RulesDiffer : List Rule → Type 0
RulesDiffer [] = Unit {0}
RulesDiffer (rule ∷ rules) = AllByRecursion (IsOtherRule rule) rules × RulesDiffer rules

-- explicit numbers are given once, and an implicit name is bound by its rule
pub record NamesFit (t : Summary) (p : PlainPartition) : Type 0 where
  pub unused : (n : ℕ) → p.explicit < n → sub_at p (name.Explicit n) ≡ None
  pub unbound : (n : ℕ) → sub_at p (name.Explicit n) ≡ None → t.binding (name.Explicit n) ≡ None
  pub implied : (kind : List ℕ) (stream : StreamId) → t.binding (name.Implicit kind stream) ≡ bound_by_rules (name.Implicit kind stream) p.rules
  pub differ : RulesDiffer p.rules

-- a delivery that waits for a grain is of an open subscription of that grain
pub record IsBoxed (p : PlainPartition) (g : GrainId) (d : Delivery) : Type 0 where
  pub record_of : Subscription
  pub found : sub_at p d.sub ≡ Some record_of
  pub is_open : record_of.is_open ≡ true
  pub grain : record_of.grain ≡ g

-- a turn that runs is of a subscription of that grain, was begun once and isn't committed
pub record IsRunning (t : Summary) (p : PlainPartition) (g : GrainId) (run : RunningTurn) : Type 0 where
  pub record_of : Subscription
  pub found : sub_at p run.sub ≡ Some record_of
  pub grain : record_of.grain ≡ g
  pub events : t.turn run.turn ≡ events_at p.log run.positions
  pub begun : t.begun run.turn ≡ 1
  pub committed : t.committed run.turn ≡ 0
  pub number : run.turn ≤ p.turns
  pub some : 1 ≤ length run.positions
  pub bound : length run.positions ≤ TURN_EVENTS

pub record GrainFits (t : Summary) (p : PlainPartition) (g : GrainId) : Type 0 where
  pub boxed : AllByRecursion (IsBoxed p g) (grain_at p g).mailbox
  pub running : (run : RunningTurn) → (grain_at p g).running ≡ Some run → IsRunning t p g run
  pub idle : (grain_at p g).active ≡ false → ((grain_at p g).mailbox ≡ []) × ((grain_at p g).running ≡ None)

pub record GrainsFit (t : Summary) (p : PlainPartition) : Type 0 where
  pub each : (g : GrainId) → GrainFits t p g
  -- two grains never run a turn of one number
  pub apart : (g h : GrainId) (run other : RunningTurn) → (grain_at p g).running ≡ Some run → (grain_at p h).running ≡ Some other
      → run.turn ≡ other.turn → g ≡ h

-- numbers of turns are given once and committed once, in order
pub record NumbersFit (t : Summary) (p : PlainPartition) : Type 0 where
  pub unused : (k : ℕ) → p.turns < k → t.begun k ≡ 0
  pub uncommitted : (k : ℕ) → p.turns < k → t.committed k ≡ 0
  pub begun : (k : ℕ) → t.begun k ≤ 1
  pub committed : (k : ℕ) → t.committed k ≤ 1

pub record Fits (t : Summary) (p : PlainPartition) : Type 0 where
  pub log : LogFits t p
  pub subs : SubsFit t p
  pub unmade : UnmadeFit t p
  pub names : NamesFit t p
  pub grains : GrainsFit t p
  pub numbers : NumbersFit t p

-- an operation, by what it leaves and answers
abbrev pub Kept : Summary → Op → PlainPartition × Reply → Type 0
Kept t op out = Fits (after t op out.1) out.0 × Promise t op out.1
