-- What a drain asks of a subscription, of which one next, and what it does for one at once.
use Rattle.std.specs.Prelude.{◌≡◌, ℕ, zero, suc, ◌<◌, ◌≤◌, Bool, true, false, ◌&&◌, ◌||◌, ◌==◌, not, nat_le, nat_lt, List, [], ◌∷◌, ◌++◌, length, get_or, map, Option, Some, None}
use Rattle.consumer_grain.specs.Subscriptions as state
use Rattle.consumer_grain.specs.declared.sub_state.SubState.{SubState}
use Rattle.stream_ident.specs.declared.ident.GrainId.{GrainId}
use Rattle.stream_ident.specs.declared.ident.SubName.{SubName}
use Rattle.stream_ident.specs.declared.ident.SubName.TheVariants as name
use Rattle.stream_ident.specs.Name.{same_grain}
use Rattle.stream_ident.specs.SubName.{sub_lt}
use Rattle.stream_ident.specs.Words.{above, keys_where, least, past, value_at}
use Rattle.stream_model.specs.declared.plain.Grain.{Grain}
use Rattle.stream_model.specs.declared.plain.PlainPartition.{PlainPartition}
use Rattle.stream_model.specs.declared.plain.Subscription.{Subscription}
use Rattle.stream_model.specs.Draining.{Progress, and_then, deliver_up_to, next_note}
use Rattle.stream_model.specs.Looks.{is_due}
use Rattle.stream_model.specs.Positions.{grain_at, is_spent, is_unacknowledged, next_position, running_in, sub_at, waiting_in, with_sub}
use Rattle.step_core.specs.DrainPhases.{Ends, after_deliveries}
use Rattle.pulling_agent.specs.declared.told.Sought.{Sought}
use Rattle.pulling_agent.specs.declared.told.Sought.TheVariants as sought

abbrev pub grain_of : Subscription → GrainId
grain_of r = r.grain

abbrev pub cursor_of : Subscription → ℕ
cursor_of r = r.cursor

-- It is open, what it has handled is acknowledged, and its next event is sought from its resume on, which stands at or
-- past the end of the cache. So a drain that serves it changes nothing.
abbrev pub is_settled : ℕ → Subscription → Bool
is_settled high r = r.is_open && (nat_le high r.cursor && ((r.resume == r.cursor) && not (is_unacknowledged r)))

abbrev pub is_settled_in : ℕ → Option Subscription → Bool
is_settled_in high None = false
is_settled_in high (Some r) = is_settled high r

-- the same of how far a subscription is
abbrev pub is_settled_state : ℕ → SubState → Bool
is_settled_state high s = s.live && (nat_le high s.cursor && ((s.resume == s.cursor) && not (state.is_unacknowledged s)))

-- the least name of a subscription that is due, of those that are greater than the given one
abbrev pub next_due : PlainPartition → Option SubName → Option SubName
next_due p after = least sub_lt (above sub_lt after (keys_where (is_due p) p.subs))

-- the names of the subscriptions, each at the place that is its number
abbrev pub names_of : PlainPartition → List SubName
names_of p = map (λ entry. entry.0) p.subs

abbrev pub name_of : PlainPartition → ℕ → SubName
name_of p number = get_or (names_of p) number (name.Explicit 0)

-- a grain that is active, for which nothing waits and no turn runs
abbrev pub resting_grain : ℕ → Grain
resting_grain activation = record { activation = activation; active = true; mailbox = []; running = None }

-- the next event of the subscription can be delivered and handled at once, by a turn of its grain
pub record CanTurn (p : PlainPartition) (s : SubName) (r : Subscription) (position activation : ℕ) : Type 0 where
  pub found : sub_at p s ≡ Some r
  pub is_open : r.is_open ≡ true
  pub next : next_position p r ≡ Some position
  pub fresh : nat_lt position (past r.handled) ≡ false
  pub rests : value_at same_grain r.grain p.grains ≡ Some (resting_grain activation)
  pub left : is_spent p ≡ false

-- The subscription is open, and this is the next event of the cache that it is owed. It has handled an event, and none from
-- this one on. Its grain rests.
pub record IsReady (p : PlainPartition) (r : Subscription) (position : ℕ) : Type 0 where
  pub is_open : r.is_open ≡ true
  pub next : next_position p r ≡ Some position
  pub some : 0 < past r.handled
  pub fresh : past r.handled ≤ position
  pub within : position < p.high
  pub activation : ℕ
  pub rests : value_at same_grain r.grain p.grains ≡ Some (resting_grain activation)

-- the same of the subscription with a name
pub record HasNext (p : PlainPartition) (s : SubName) (position : ℕ) : Type 0 where
  pub record_of : Subscription
  pub found : sub_at p s ≡ Some record_of
  pub ready : IsReady p record_of position

-- one more event delivered and handled
abbrev pub turned : Subscription → ℕ → Subscription
turned r position = record r { handled = r.handled ++ position ∷ []; note = next_note r.note; cursor = suc position }

-- the partition after that, in which a turn was made and its grain rests again
abbrev pub with_turn : PlainPartition → SubName → Subscription → ℕ → PlainPartition
with_turn p s r position = record (with_sub p s (turned r position)) { rises = suc p.rises; turns = suc p.turns }

-- so many deliveries at most, the first that finds nothing the last, and what is done after them
abbrev pub serve_up_to : ℕ → SubName → GrainId → PlainPartition → Progress
serve_up_to n s g p = and_then (deliver_up_to n s g p) (after_deliveries s)

-- nothing is left for the subscription in the cache: to serve it comes to this, however many deliveries may be made
pub record IsCaughtUp (old new : PlainPartition) (s : SubName) : Type 0 where
  pub record_of : Subscription
  pub found : sub_at old s ≡ Some record_of
  pub served : (n : ℕ) (g : GrainId) → Ends old new (Some None) (serve_up_to n s g old)

-- whether it is, where nothing has changed if it isn't
abbrev pub CatchesUp : PlainPartition → PlainPartition → SubName → Bool → Type 0
CatchesUp old new s true = IsCaughtUp old new s
CatchesUp old new s false = new ≡ old

-- the first is caught up, and then so many more, each the next that is due after the one before, up to the last
abbrev pub CatchUp : PlainPartition → PlainPartition → SubName → ℕ → SubName → Type 0
CatchUp old new first zero last = (last ≡ first) × IsCaughtUp old new first
CatchUp old new first (suc more) last =
    (mid : PlainPartition) × ((before : SubName) × (CatchUp old mid first more before × ((Some last ≡ next_due mid (Some before)) × IsCaughtUp mid new last)))

-- whether they are, from the one with a number up to that with another, where nothing has changed if they aren't
abbrev pub CatchesUpFrom : (ℕ → SubName) → PlainPartition → PlainPartition → ℕ → Option ℕ → Type 0
CatchesUpFrom name old new number None = new ≡ old
CatchesUpFrom name old new number (Some last) = (more : ℕ) × CatchUp old new (name number) more (name last)

-- the next event of the subscription was delivered, and a turn of its grain has handled it
pub record IsHandledOnce (old new : PlainPartition) (s : SubName) : Type 0 where
  pub record_of : Subscription
  pub position : ℕ
  pub activation : ℕ
  pub can : CanTurn old s record_of position activation
  pub is : new ≡ with_turn old s record_of position

-- and then nothing was left for it in the cache
pub record IsHandledLast (old new : PlainPartition) (s : SubName) : Type 0 where
  pub between : PlainPartition
  pub once : IsHandledOnce old between s
  pub rest : IsCaughtUp between new s

-- what came of the next event: nothing has changed, another one follows, or nothing is left
abbrev pub HandlesNext : PlainPartition → PlainPartition → SubName → Option Sought → Type 0
HandlesNext old new s None = new ≡ old
HandlesNext old new s (Some (sought.Next next)) = IsHandledOnce old new s × HasNext new s next
HandlesNext old new s (Some _) = IsHandledLast old new s

-- a delivery of the subscription waits or runs
abbrev pub is_held : PlainPartition → SubName → Subscription → Bool
is_held p s r = nat_lt 0 (length (waiting_in s (grain_at p r.grain).mailbox)) || nat_lt 0 (length (running_in s (grain_at p r.grain).running))
