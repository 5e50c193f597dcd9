-- What is asked without changing anything.
use Rattle.std.specs.Prelude.{pred, Bool, ◌&&◌, ◌||◌, not, length, Option, Some, None, is_some, nat_lt, if◌then◌else◌}
use Rattle.stream_ident.specs.declared.ident.GrainId.{GrainId}
use Rattle.stream_ident.specs.declared.ident.SubName.{SubName}
use Rattle.stream_ident.specs.declared.token.Token.{Token}
use Rattle.stream_ident.specs.Name.{grain_lt}
use Rattle.stream_ident.specs.SubName.{sub_lt}
use Rattle.stream_model.specs.declared.plain.Grain.{Grain}
use Rattle.stream_model.specs.declared.plain.PlainPartition.{PlainPartition}
use Rattle.stream_model.specs.declared.plain.Subscription.{Subscription}
use Rattle.stream_model.specs.declared.reply.Pending.{Pending}
use Rattle.stream_model.specs.declared.reply.Pending.TheVariants as pending
use Rattle.stream_model.specs.Replies.{Reply}
use Rattle.stream_model.specs.declared.reply.Reply.TheVariants as reply
use Rattle.stream_model.specs.Positions.{token_at, next_position, sub_at, is_unacknowledged}
use Rattle.stream_ident.specs.Words.{or_else, least, next_after, past, keys_where}

abbrev pub is_waiting : Grain → Bool
is_waiting st = nat_lt 0 (length st.mailbox)

-- a grain runs a turn
abbrev pub is_running : Grain → Bool
is_running st = is_some st.running

abbrev pub ready_reply : Option GrainId → Reply
ready_reply None = reply.NoneReady
ready_reply (Some g) = reply.Next g

-- the least ready grain after the given one, else the least; a grain is ready where something waits and
-- no turn runs
unfoldable pub ready : PlainPartition → Option GrainId → Reply
ready p after = ready_reply (next_after grain_lt after (keys_where (λ st. is_waiting st && not (is_running st)) p.grains))

-- open, and with something to acknowledge or a resume below high
abbrev pub is_due : PlainPartition → Subscription → Bool
is_due p r = r.is_open && (is_unacknowledged r || nat_lt r.resume p.high)

-- the token of its last handled event, where that isn't acknowledged
abbrev pub to_acknowledge : PlainPartition → Option Subscription → Option Token
to_acknowledge p None = None
to_acknowledge p (Some r) = if is_unacknowledged r then Some (token_at p (pred (past r.handled))) else None

abbrev pub due_reply : PlainPartition → Option SubName → Reply
due_reply p None = reply.NoneDue
due_reply p (Some s) = reply.DueSub s (to_acknowledge p (sub_at p s))

-- the least due name after the given one, else the least
unfoldable pub due : PlainPartition → Option SubName → Reply
due p after = due_reply p (next_after sub_lt after (keys_where (is_due p) p.subs))

abbrev pub behind : PlainPartition → Option Pending
behind p = if nat_lt p.high (length p.log) then Some pending.Behind else None

abbrev pub deliverable : Option SubName → Option Pending
deliverable None = None
deliverable (Some s) = Some (pending.Deliverable s)

abbrev pub waiting : Option GrainId → Option Pending
waiting None = None
waiting (Some g) = Some (pending.Waiting g)

abbrev pub running : Option GrainId → Option Pending
running None = None
running (Some g) = Some (pending.Running g)

-- the first reason why the partition isn't quiet
abbrev pub pending_in : PlainPartition → Option Pending
pending_in p =
    or_else (behind p)
    (or_else (deliverable (least sub_lt (keys_where (λ r. r.is_open && is_some (next_position p r)) p.subs)))
    (or_else (waiting (least grain_lt (keys_where is_waiting p.grains)))
    (running (least grain_lt (keys_where is_running p.grains)))))

abbrev pub quiet_reply : Option Pending → Reply
quiet_reply None = reply.IsQuiet
quiet_reply (Some why) = reply.NotQuiet why

-- the reply to Quiet
unfoldable pub quiet : PlainPartition → Reply
quiet p = quiet_reply (pending_in p)
