-- One operation on a plain partition: what it leaves, and its reply. A history is legal where each reply
-- is that of its step.
use Rattle.std.specs.Prelude.{ℕ, ◌≤◌, Bool, true, false, List, [], ◌∷◌}
use Rattle.stream_ident.specs.Words.{LeadsBy}
use Rattle.stream_model.specs.declared.limits.Limits.{Limits}
use Rattle.stream_model.specs.declared.op.Op.{Op}
use Rattle.stream_model.specs.declared.op.Op.TheVariants.{Publish, Subscribe, Unsubscribe, AddRule, Pull, Deliver, Retry, Ack, Purge, Begin, Commit, Deactivate, Move, Ready, Due, Quiet}
use Rattle.stream_model.specs.declared.plain.PlainPartition.{PlainPartition}
use Rattle.stream_model.specs.Replies.{Reply}
use Rattle.stream_model.specs.declared.reply.Reply.TheVariants as reply
use Rattle.stream_model.specs.History.{Entry}
use Rattle.stream_model.specs.Looks.{ready, due, quiet}
use Rattle.stream_model.specs.Positions.{empty}
use Rattle.stream_model.specs.Publishing.{publish, subscribe, unsubscribe, add_rule}
use Rattle.stream_model.specs.Pulling.{pull, deliver, retry, ack, purge, move}
use Rattle.stream_model.specs.Turns.{begin, commit, deactivate}

-- what an operation leaves, and its reply, with refusals in their order
unfoldable pub step : PlainPartition → Op → PlainPartition × Reply
step p (Publish stream payloads) = publish p stream payloads
step p (Subscribe stream grain start) = subscribe p stream grain start
step p (Unsubscribe sub) = unsubscribe p sub
step p (AddRule kind namespace) = add_rule p kind namespace
step p (Pull generation max_events) = pull p generation max_events
step p (Deliver generation sub) = deliver p generation sub
step p (Retry generation sub) = retry p generation sub
step p (Ack generation sub token) = ack p generation sub token
step p (Purge generation keep) = purge p generation keep
step p (Begin grain max_events) = begin p grain max_events
step p (Commit grain activation turn note) = commit p grain activation turn note
step p (Deactivate grain) = deactivate p grain
step p (Move silo) = move p silo
step p (Ready after) = (p, ready p after)
step p (Due after) = (p, due p after)
step p Quiet = (p, quiet p)

-- the partition after these operations, and the replies to them
abbrev pub after_steps : PlainPartition → List Op → PlainPartition
after_steps p [] = p
after_steps p (op ∷ ops) = after_steps (step p op).0 ops

abbrev pub replies_of : PlainPartition → List Op → List Reply
replies_of p [] = []
replies_of p (op ∷ ops) = (step p op).1 ∷ replies_of (step p op).0 ops

-- from p the entries, the oldest first, lead to q, each with the reply of its step
abbrev pub Leads : PlainPartition → List Entry → PlainPartition → Type 0
Leads p entries q = LeadsBy (λ (e : Entry). e.op) (λ (e : Entry). e.reply) step p entries q

-- The history, the oldest entry first, is legal (each reply is that of its step), and leads to this
-- partition.
abbrev pub Stands : ℕ → Limits → List Entry → PlainPartition → Type 0
Stands blocks limits history p = Leads (empty blocks limits) history p

-- some legal history leads to the partition
pub record IsReached (p : PlainPartition) : Type 0 where
  pub blocks : ℕ
  pub limits : Limits
  pub history : List Entry
  pub some_blocks : 1 ≤ blocks
  pub stands : Stands blocks limits history p

-- A reply after which more is kept than before. Only such a step may want memory; all others, each refusal
-- among them, are given without it.
abbrev pub takes_memory : Reply → Bool
takes_memory (reply.Published seq) = true
takes_memory (reply.Subscribed number) = true
takes_memory (reply.RuleAdded from) = true
takes_memory (reply.Pulled count low high) = true
takes_memory (reply.Delivered token) = true
takes_memory (reply.Committed sub token) = true
takes_memory _ = false

-- An operation that carries payloads. Only a copy of these may want memory.
abbrev pub has_payloads : Op → Bool
has_payloads (Publish stream payloads) = true
has_payloads _ = false
