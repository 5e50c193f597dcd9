-- What a worker asks (Orleans, Grains: a grain is activated on its first message, handles one turn at a
-- time and may be deactivated).
use Rattle.std.specs.Prelude.{ℕ, suc, pred, ◌+◌, false, ◌&&◌, not, List, [], ◌∷◌, ◌++◌, length, drop, Option, Some, None, is_some, ◌==◌, nat_lt, if◌then◌else◌, Bool}
use Rattle.stream_ident.specs.declared.ident.GrainId.{GrainId}
use Rattle.stream_ident.specs.declared.ident.SubName.{SubName}
use Rattle.stream_ident.specs.Name.{same_grain}
use Rattle.stream_ident.specs.SubName.{same_sub}
use Rattle.stream_model.specs.declared.plain.Delivery.{Delivery}
use Rattle.stream_model.specs.declared.plain.Grain.{Grain}
use Rattle.stream_model.specs.declared.plain.PlainPartition.{PlainPartition}
use Rattle.stream_model.specs.declared.plain.RunningTurn.{RunningTurn}
use Rattle.stream_model.specs.declared.plain.Subscription.{Subscription}
use Rattle.stream_model.specs.Replies.{Reply}
use Rattle.stream_model.specs.declared.reply.Reply.TheVariants as reply
use Rattle.stream_model.specs.Positions.{token_at, events_at, sub_at, grain_at, with_sub, with_grain, is_spent}
use Rattle.stream_model.specs.Pulling.{rewound_where}
use Rattle.stream_ident.specs.Words.{past, each_value, rising_front}
use Rattle.stream_ident.specs.Blocks.{turn_size}

-- the positions of the longest front of the deliveries, at most n, that are all of one subscription and
-- rise from this position on
abbrev pub front_of : ℕ → SubName → ℕ → List Delivery → List ℕ
front_of n s from deliveries = rising_front same_sub (λ (d : Delivery). d.sub) (λ (d : Delivery). d.position) n s from deliveries

abbrev pub dropped : PlainPartition → GrainId → Grain → List Delivery → PlainPartition
dropped p g st deliveries = with_grain p g (record st { mailbox = deliveries })

abbrev pub begun : PlainPartition → GrainId → Grain → SubName → List ℕ → PlainPartition
begun p g st s positions =
    record (with_grain p g (record st {
      mailbox = drop (length positions) st.mailbox;
      running = Some (record { sub = s; turn = suc p.turns; positions = positions });
    })) { rises = suc p.rises; turns = suc p.turns }

unfoldable pub begin_turn : PlainPartition → GrainId → Grain → SubName → ℕ → List ℕ → PlainPartition × Reply
begin_turn p g st s note positions =
    (begun p g st s positions, reply.Turn s st.activation (suc p.turns) (events_at p.log positions) note)

unfoldable pub begin_for : PlainPartition → GrainId → ℕ → Grain → Delivery → List Delivery → Option Subscription → PlainPartition × Reply
-- never so, since a delivery's subscription has a record
begin_for p g n st d deliveries None = (p, reply.Empty)
begin_for p g n st d deliveries (Some r) =
    if nat_lt d.position (past r.handled) then (dropped p g st deliveries, reply.Dropped d.sub (token_at p d.position))
    else if is_spent p then (p, reply.Spent)
    else begin_turn p g st d.sub r.note (front_of n d.sub d.position st.mailbox)

unfoldable pub begin_front : PlainPartition → GrainId → ℕ → Grain → List Delivery → PlainPartition × Reply
begin_front p g n st [] = (p, reply.Empty)
begin_front p g n st (d ∷ deliveries) = begin_for p g n st d deliveries (sub_at p d.sub)

unfoldable pub begin_in : PlainPartition → GrainId → ℕ → Grain → PlainPartition × Reply
begin_in p g n st =
    if is_some st.running then (p, reply.Busy)
    else if not st.active then (p, reply.Empty)
    else begin_front p g n st st.mailbox

unfoldable pub begin : PlainPartition → GrainId → ℕ → PlainPartition × Reply
begin p g max_events = begin_in p g (turn_size max_events) (grain_at p g)

abbrev pub ended : PlainPartition → GrainId → Grain → PlainPartition
ended p g st = with_grain p g (record st { running = None })

abbrev pub committed : PlainPartition → GrainId → Grain → RunningTurn → Subscription → ℕ → PlainPartition
committed p g st run r note =
    with_sub (ended p g st) run.sub (record r { handled = r.handled ++ run.positions; note = note })

unfoldable pub commit_for : PlainPartition → GrainId → Grain → RunningTurn → ℕ → Option Subscription → PlainPartition × Reply
-- never so, since a turn's subscription has a record
commit_for p g st run note None = (p, reply.Stale)
commit_for p g st run note (Some r) =
    if not r.is_open then (ended p g st, reply.Closed)
    else (committed p g st run r note, reply.Committed run.sub (token_at p (pred (past run.positions))))

unfoldable pub commit_running : PlainPartition → GrainId → Grain → ℕ → ℕ → ℕ → Option RunningTurn → PlainPartition × Reply
commit_running p g st activation turn note None = (p, reply.Stale)
commit_running p g st activation turn note (Some run) =
    if (activation == st.activation) && (turn == run.turn) then commit_for p g st run note (sub_at p run.sub)
    else (p, reply.Stale)

unfoldable pub commit : PlainPartition → GrainId → ℕ → ℕ → ℕ → PlainPartition × Reply
commit p g activation turn note = commit_running p g (grain_at p g) activation turn note (grain_at p g).running

abbrev pub running_count : Option RunningTurn → ℕ
running_count None = 0
running_count (Some run) = length run.positions

-- an open subscription of the grain, whose cursor goes back when the grain leaves memory
abbrev pub is_open_of : GrainId → Subscription → Bool
is_open_of g r = same_grain g r.grain && r.is_open

abbrev pub deactivated : PlainPartition → GrainId → Grain → PlainPartition
deactivated p g st =
    record (with_grain p g (record st { active = false; mailbox = []; running = None })) {
      subs = each_value (λ r. rewound_where (is_open_of g r) r) p.subs;
    }

unfoldable pub deactivate_in : PlainPartition → GrainId → Grain → PlainPartition × Reply
deactivate_in p g st =
    if not st.active then (p, reply.NotActive)
    else (deactivated p g st, reply.Deactivated (length st.mailbox + running_count st.running))

unfoldable pub deactivate : PlainPartition → GrainId → PlainPartition × Reply
deactivate p g = deactivate_in p g (grain_at p g)
