-- Draining a partition: the operations that it makes, and how it ends.
use Rattle.std.specs.Prelude.{◌≡◌, ℕ, zero, suc, pred, ◌-◌, min, true, false, Bool, List, [], ◌∷◌, ◌++◌, length, filter, Option, Some, None, Result, Ok, Err, nat_lt, if◌then◌else◌}
use Rattle.std.specs.declared.alloc.AllocError.{AllocError}
use Rattle.std.specs.List.{flat_map}
use Rattle.stream_ident.specs.declared.ident.GrainId.{GrainId}
use Rattle.stream_ident.specs.declared.ident.SubName.{SubName}
use Rattle.stream_ident.specs.declared.token.Token.{Token}
use Rattle.stream_ident.specs.Name.{grain_lt}
use Rattle.stream_ident.specs.SubName.{sub_lt}
use Rattle.stream_model.specs.declared.drain_end.DrainEnd.{DrainEnd}
use Rattle.stream_model.specs.declared.drain_end.DrainEnd.TheVariants as ending
use Rattle.stream_model.specs.declared.op.Op.{Op}
use Rattle.stream_model.specs.declared.op.Op.TheVariants.{Pull, Deliver, Ack, Begin, Commit}
use Rattle.stream_model.specs.declared.plain.PlainPartition.{PlainPartition}
use Rattle.stream_model.specs.declared.plain.Subscription.{Subscription}
use Rattle.stream_model.specs.Replies.{Reply}
use Rattle.stream_model.specs.declared.reply.Reply.TheVariants as reply
use Rattle.stream_model.specs.History.{Entry}
use Rattle.stream_model.specs.Looks.{is_running, is_waiting}
use Rattle.stream_model.specs.Positions.{sub_at, token_at}
use Rattle.stream_model.specs.Step.{step, Leads}
use Rattle.stream_ident.specs.Words.{keys_where, least, past, IsPrefixOf}

-- the elements from the least to the greatest
abbrev pub insert_in_order : {A : Type 0} → (A → A → Bool) → A → List A → List A
insert_in_order lt x [] = x ∷ []
insert_in_order lt x (y ∷ ys) = if lt y x then y ∷ insert_in_order lt x ys else x ∷ y ∷ ys

abbrev pub in_order : {A : Type 0} → (A → A → Bool) → List A → List A
in_order lt [] = []
in_order lt (x ∷ xs) = insert_in_order lt x (in_order lt xs)

-- why no more operations are made
pub data Stop : Type 0 where
  AtTooMany : Stop
  AtSpent : Stop
  -- never so: no reply is another than those that are looked for, and the rounds suffice
  Astray : Stop

-- operations made one after another: their entries, the partition after them, and whether that was all
pub record Progress : Type 0 where
  pub entries : List Entry
  pub now : PlainPartition
  pub stop : Option Stop

abbrev pub done : PlainPartition → Progress
done p = record { entries = []; now = p; stop = None }

abbrev pub stopped : Stop → PlainPartition → Progress
stopped why p = record { entries = []; now = p; stop = Some why }

abbrev pub joined : List Entry → Progress → Progress
joined entries m = record m { entries = entries ++ m.entries }

-- one operation, and what follows its reply
abbrev pub ask : PlainPartition → Op → (PlainPartition → Reply → Progress) → Progress
ask p op next = joined (record { op = op; reply = (step p op).1 } ∷ []) (next (step p op).0 (step p op).1)

-- and then, unless that was all
abbrev pub go_on : List Entry → PlainPartition → Option Stop → (PlainPartition → Progress) → Progress
go_on entries p None next = joined entries (next p)
go_on entries p (Some why) next = record { entries = entries; now = p; stop = Some why }

abbrev pub and_then : Progress → (PlainPartition → Progress) → Progress
and_then m next = go_on m.entries m.now m.stop next

-- A turn: Begin, and Commit where it answered Turn. The note rises by one, up to the greatest.
abbrev pub next_note : ℕ → ℕ
next_note note = min (suc note) 18446744073709551615

abbrev pub after_commit : PlainPartition → Reply → Progress
after_commit p (reply.Committed s token) = done p
after_commit p _ = stopped Astray p

abbrev pub after_begin : GrainId → PlainPartition → Reply → Progress
after_begin g p (reply.Turn s activation turn events note) = ask p (Commit g activation turn (next_note note)) after_commit
after_begin g p (reply.Dropped s token) = done p
after_begin g p reply.Spent = stopped AtSpent p
after_begin g p _ = stopped Astray p

unfoldable pub take_turn : GrainId → PlainPartition → Progress
take_turn g p = ask p (Begin g 1) (after_begin g)

-- While something waits: a turn of the least grain for which it does.
abbrev pub least_waiting : PlainPartition → Option GrainId
least_waiting p = least grain_lt (keys_where is_waiting p.grains)

unfoldable pub take_turns : ℕ → PlainPartition → Option GrainId → Progress
take_turns n p None = done p
take_turns zero p (Some g) = stopped Astray p
take_turns (suc n) p (Some g) = and_then (take_turn g p) (λ q. take_turns n q (least_waiting q))

-- how many deliveries wait
abbrev pub all_waiting : PlainPartition → ℕ
all_waiting p = length (flat_map (λ entry. entry.1.mailbox) p.grains)

abbrev pub empty_mailboxes : PlainPartition → Progress
empty_mailboxes p = take_turns (all_waiting p) p (least_waiting p)

-- A subscription: Deliver; while that answers Delivered, a turn of its grain and Deliver again.
unfoldable pub after_deliver : ℕ → SubName → GrainId → PlainPartition → Reply → Progress
after_deliver n s g p reply.Nothing = done p
after_deliver n s g p reply.Spent = stopped AtSpent p
after_deliver zero s g p _ = stopped Astray p
after_deliver (suc n) s g p (reply.Delivered token) =
    and_then (take_turn g p) (λ q. ask q (Deliver q.generation s) (λ r answer. after_deliver n s g r answer))
after_deliver (suc n) s g p _ = stopped Astray p

-- deliveries of a subscription, each but the last with a turn of its grain, at most so many
abbrev pub deliver_up_to : ℕ → SubName → GrainId → PlainPartition → Progress
deliver_up_to n s g p = ask p (Deliver p.generation s) (λ q answer. after_deliver n s g q answer)

unfoldable pub deliver_all : SubName → Subscription → PlainPartition → Progress
deliver_all s r p = ask p (Deliver p.generation s) (λ q answer. after_deliver (p.high - r.cursor) s r.grain q answer)

-- After Nothing: Ack of its last handled token where there is one, and Deliver once more.
abbrev pub last_handled : PlainPartition → Option Subscription → Option Token
last_handled p None = None
last_handled p (Some r) = if nat_lt 0 (length r.handled) then Some (token_at p (pred (past r.handled))) else None

abbrev pub after_ack : PlainPartition → Reply → Progress
after_ack p reply.Acked = done p
after_ack p _ = stopped Astray p

unfoldable pub acknowledge : SubName → PlainPartition → Option Token → Progress
acknowledge s p None = done p
acknowledge s p (Some token) = ask p (Ack p.generation s token) after_ack

abbrev pub after_last_deliver : PlainPartition → Reply → Progress
after_last_deliver p reply.Nothing = done p
after_last_deliver p _ = stopped Astray p

unfoldable pub deliver_once_more : SubName → PlainPartition → Progress
deliver_once_more s p = ask p (Deliver p.generation s) after_last_deliver

unfoldable pub serve : SubName → PlainPartition → Option Subscription → Progress
serve s p None = stopped Astray p
serve s p (Some r) =
    and_then (deliver_all s r p) (λ q. and_then (acknowledge s q (last_handled q (sub_at q s))) (deliver_once_more s))

unfoldable pub serve_each : List SubName → PlainPartition → Progress
serve_each [] p = done p
serve_each (s ∷ names) p = and_then (serve s p (sub_at p s)) (serve_each names)

abbrev pub open_names : PlainPartition → List SubName
open_names p = in_order sub_lt (keys_where (λ r. r.is_open) p.subs)

abbrev pub drain_round : PlainPartition → Progress
drain_round p = and_then (empty_mailboxes p) (λ q. serve_each (open_names q) q)

-- Pull with max 32. After Pulled another round; after Dry it ends.
unfoldable pub after_pull : ℕ → PlainPartition → Reply → Progress
after_pull n p reply.Dry = done p
after_pull n p reply.TooMany = stopped AtTooMany p
after_pull zero p _ = stopped Astray p
after_pull (suc n) p (reply.Pulled count low high) =
    and_then (drain_round p) (λ q. ask q (Pull q.generation 32) (λ r answer. after_pull n r answer))
after_pull (suc n) p _ = stopped Astray p

unfoldable pub drain_all : PlainPartition → Progress
drain_all p = and_then (drain_round p) (λ q. ask q (Pull q.generation 32) (λ r answer. after_pull (length p.log - p.high) r answer))

abbrev pub is_commit : Op → Bool
is_commit (Commit grain activation turn note) = true
is_commit _ = false

-- how many of the operations are commits
abbrev pub commits : List Entry → ℕ
commits entries = length (filter (λ e. is_commit e.op) entries)

-- how a drain ends, none where it went astray
abbrev pub drain_end : Option Stop → ℕ → Option DrainEnd
drain_end None turns = Some (ending.Drained turns)
drain_end (Some AtTooMany) turns = Some ending.TooMany
drain_end (Some AtSpent) turns = Some ending.Spent
drain_end (Some Astray) turns = None

abbrev pub drain_where : PlainPartition → Option GrainId → Progress × Option DrainEnd
drain_where p (Some g) = (done p, Some (ending.Stuck g))
drain_where p None = (drain_all p, drain_end (drain_all p).stop (commits (drain_all p).entries))

-- Does all that is left, in turns of one event: what waits, what open subscriptions are owed, a Pull of at
-- most 32, and again until the queue is dry. It is stuck, with nothing changed, where a turn runs, and ends
-- early at `TooMany` or `Spent`.
unfoldable pub drain : PlainPartition → Progress × Option DrainEnd
drain p = drain_where p (least grain_lt (keys_where is_running p.grains))

-- A drain did this, or failed to allocate: then the first of its operations are done, and no other. Where a
-- legal history leads to the partition no drain goes astray.
abbrev pub DrainsTo : PlainPartition → PlainPartition → Result DrainEnd AllocError → Type 0
DrainsTo old new (Ok end) = (new ≡ (drain old).0.now) × ((drain old).1 ≡ Some end)
DrainsTo old new (Err e) = (entries : List Entry) × IsPrefixOf entries (drain old).0.entries × Leads old entries new
