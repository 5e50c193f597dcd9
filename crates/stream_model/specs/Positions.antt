-- Positions on the log of a plain partition. A partition has one log of events, positions in it, and a record
-- for each subscription and grain. Its cache is the positions from `low` up to `high`, in blocks of 64.
use Rattle.std.specs.Prelude.{ℕ, ◌-◌, Bool, true, false, ◌&&◌, ◌||◌, not, List, [], ◌∷◌, length, get_or, take, drop, map, filter, Option, Some, None, unwrap_or, ◌==◌, nat_lt, nat_le, if◌then◌else◌}
use Rattle.stream_ident.specs.declared.event.Event.{Event}
use Rattle.stream_ident.specs.declared.ident.GrainId.{GrainId}
use Rattle.stream_ident.specs.declared.ident.StreamId.{StreamId}
use Rattle.stream_ident.specs.declared.ident.SubName.{SubName}
use Rattle.stream_ident.specs.declared.token.Token.{Token}
pub use Rattle.stream_ident.specs.Event.{no_event, events_at}
use Rattle.stream_ident.specs.Name.{same_grain}
use Rattle.stream_ident.specs.SubName.{same_sub, sub_lt}
use Rattle.stream_ident.specs.Token.{token_lt}
use Rattle.stream_model.specs.declared.limits.Limits.{Limits}
use Rattle.stream_model.specs.declared.plain.Delivery.{Delivery}
use Rattle.stream_model.specs.declared.plain.Grain.{Grain}
use Rattle.stream_model.specs.declared.plain.PlainPartition.{PlainPartition}
use Rattle.stream_model.specs.declared.plain.RunningTurn.{RunningTurn}
use Rattle.stream_model.specs.declared.plain.Subscription.{Subscription}
use Rattle.stream_ident.specs.Event.{batch_token, is_owed}
use Rattle.stream_ident.specs.Words.{first_at, least, least_with, past, value_at, with_value, keys_where}

-- the partition before the first operation
abbrev pub empty : ℕ → Limits → PlainPartition
empty blocks limits =
    record {
      log = [];
      batches = 0;
      low = 0;
      high = 0;
      generation = 0;
      silo = 0;
      subs = [];
      explicit = 0;
      rules = [];
      grains = [];
      rises = 0;
      turns = 0;
      blocks = blocks;
      limits = limits;
    }

-- the token at a position, and at the log's end that of the next batch
abbrev pub token_at : PlainPartition → ℕ → Token
token_at p position = get_or (map (λ event. event.token) p.log) position (batch_token p.batches)

-- the token of the first event that the cache keeps, or would keep next
abbrev pub low_token : PlainPartition → Token
low_token p = token_at p p.low

-- the token after the cache's last event
abbrev pub high_token : PlainPartition → Token
high_token p = token_at p p.high

-- the events at the positions from one up to another
abbrev pub between : List Event → ℕ → ℕ → List Event
between log from to = take (to - from) (drop from log)

-- the least position at or past the cursor that the cache has and the subscription is owed
abbrev pub next_position : PlainPartition → Subscription → Option ℕ
next_position p r = first_at (λ event. is_owed r.stream r.start event) r.cursor (between p.log r.cursor p.high)

-- the least position in the cache whose token isn't less, or high
abbrev pub lower_bound : PlainPartition → Token → ℕ
lower_bound p token = unwrap_or (first_at (λ event. not (token_lt event.token token)) p.low (between p.log p.low p.high)) p.high

abbrev pub sub_at : PlainPartition → SubName → Option Subscription
sub_at p s = value_at same_sub s p.subs

-- a grain that was never active
abbrev pub new_grain : Grain
new_grain = record { activation = 0; active = false; mailbox = []; running = None }

abbrev pub grain_at : PlainPartition → GrainId → Grain
grain_at p g = unwrap_or (value_at same_grain g p.grains) new_grain

abbrev pub with_sub : PlainPartition → SubName → Subscription → PlainPartition
with_sub p s r = record p { subs = with_value same_sub s r p.subs }

abbrev pub with_grain : PlainPartition → GrainId → Grain → PlainPartition
with_grain p g st = record p { grains = with_value same_grain g st p.grains }

-- a subscription that has handled nothing
abbrev pub new_subscription : StreamId → GrainId → Token → ℕ → Subscription
new_subscription stream grain start position =
    record { stream = stream; grain = grain; start = start; handled = []; note = 0; resume = position; cursor = position; is_open = true }

-- the positions of a subscription that wait in this mailbox
abbrev pub waiting_in : SubName → List Delivery → List ℕ
waiting_in s deliveries = map (λ d. d.position) (filter (λ d. same_sub s d.sub) deliveries)

abbrev pub running_in : SubName → Option RunningTurn → List ℕ
running_in s None = []
running_in s (Some run) = if same_sub s run.sub then run.positions else []

-- a handled position is at or past the resume
abbrev pub is_unacknowledged : Subscription → Bool
is_unacknowledged r = nat_lt r.resume (past r.handled)

-- a delivery of the subscription waits or runs, or it has a handled position at or past its resume
abbrev pub is_outstanding : PlainPartition → SubName → Subscription → Bool
is_outstanding p s r =
    nat_lt 0 (length (waiting_in s (grain_at p r.grain).mailbox))
    || (nat_lt 0 (length (running_in s (grain_at p r.grain).running)) || is_unacknowledged r)

-- the resumes of the open ones of these subscriptions
abbrev pub resumes_of : List (SubName × Subscription) → List ℕ
resumes_of subs = map (λ entry. entry.1.resume) (filter (λ entry. entry.1.is_open) subs)

abbrev pub open_resumes : PlainPartition → List ℕ
open_resumes p = resumes_of p.subs

-- open, with this resume
abbrev pub is_open_at : ℕ → Subscription → Bool
is_open_at resume r = r.is_open && (r.resume == resume)

abbrev pub least_or : ℕ → List ℕ → ℕ
least_or n [] = n
least_or n (x ∷ xs) = least_with x xs

-- the least resume of an open subscription, or high where none is open
abbrev pub slowest : PlainPartition → ℕ
slowest p = least_or p.high (open_resumes p)

-- the least name of an open subscription with that resume
abbrev pub slowest_name : PlainPartition → Option SubName
slowest_name p = least sub_lt (keys_where (is_open_at (slowest p)) p.subs)

-- no rise is left
abbrev pub is_spent : PlainPartition → Bool
is_spent p = nat_le p.limits.rises p.rises
