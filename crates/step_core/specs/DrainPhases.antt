-- What a phase of a drain owes, and what it reads of a reply.
use Rattle.std.specs.Prelude.{◌≡◌, Bool, true, false, List, [], ◌∷◌, ◌++◌, Option, Some, None, Result, Ok, Err}
use Rattle.stream_model.specs.declared.op.Op.{Op}
use Rattle.stream_model.specs.declared.plain.PlainPartition.{PlainPartition}
use Rattle.step_core.specs.declared.draining.Stop.{Stop}
use Rattle.step_core.specs.declared.draining.Stop.TheVariants as stop
use Rattle.stream_model.specs.Replies.{Reply}
use Rattle.stream_model.specs.declared.reply.Reply.TheVariants as reply
use Rattle.stream_model.specs.Draining as draining
use Rattle.stream_model.specs.Draining.{AtTooMany, AtSpent, Astray, Progress, acknowledge, and_then, deliver_once_more, last_handled}
use Rattle.stream_ident.specs.declared.ident.SubName.{SubName}
use Rattle.stream_ident.specs.Words.{IsPrefixOf}
use Rattle.stream_model.specs.Positions.{sub_at}
use Rattle.stream_model.specs.History.{Entry}
use Rattle.stream_model.specs.Memory.{may_allocate}
use Rattle.stream_model.specs.Step.{step, Leads}

-- how a phase ended that was not all done: with a stop, or None where an operation failed to allocate
abbrev pub halted : Stop → Option (Option draining.Stop)
halted stop.TooMany = Some (Some AtTooMany)
halted stop.Spent = Some (Some AtSpent)
halted stop.Astray = Some (Some Astray)
halted (stop.Memory wanting) = None

-- how a phase ended: Some None where all of it was done
abbrev pub meant : {T : Type 0} → Result T Stop → Option (Option draining.Stop)
meant (Ok done) = Some None
meant (Err why) = halted why

-- Only the first of these operations are done: the next one may allocate, and failed to.
pub record BreaksOff (old new : PlainPartition) (entries : List Entry) : Type 0 where
  pub done : List Entry
  pub failed : Entry
  pub front : IsPrefixOf (done ++ failed ∷ []) entries
  pub leads : Leads old done new
  pub allocates : may_allocate new failed.op ≡ true

-- it ended as the progress says, or it broke off
abbrev pub Ends : PlainPartition → PlainPartition → Option (Option draining.Stop) → Progress → Type 0
Ends old new (Some end) m = (new ≡ m.now) × (end ≡ m.stop) × Leads old m.entries new
Ends old new None m = BreaksOff old new m.entries

-- what a phase owes
abbrev pub Follows : {T : Type 0} → PlainPartition → PlainPartition → Result T Stop → Progress → Type 0
Follows old new result m = Ends old new (meant result) m

-- an operation was done, and its reply says how to go on; or it failed to allocate, and nothing has changed
abbrev pub Asks : PlainPartition → PlainPartition → Result Bool Stop → Op → (Reply → Result Bool Stop) → Type 0
Asks old new (Err (stop.Memory wanting)) op told = (new ≡ old) × (may_allocate old op ≡ true)
Asks old new result op told = (answer : Reply) × ((new, answer) ≡ step old op) × (told answer ≡ result)

-- whether an event went into the mailbox
abbrev pub deliver_told : Reply → Result Bool Stop
deliver_told (reply.Delivered token) = Ok true
deliver_told reply.Nothing = Ok false
deliver_told reply.Spent = Err stop.Spent
deliver_told _ = Err stop.Astray

-- whether events went into the cache
abbrev pub pull_told : Reply → Result Bool Stop
pull_told (reply.Pulled count low high) = Ok true
pull_told reply.Dry = Ok false
pull_told reply.TooMany = Err stop.TooMany
pull_told _ = Err stop.Astray

abbrev pub is_committed : Reply → Bool
is_committed (reply.Committed sub token) = true
is_committed _ = false

abbrev pub is_acknowledged : Reply → Bool
is_acknowledged reply.Acked = true
is_acknowledged _ = false

abbrev pub is_nothing : Reply → Bool
is_nothing reply.Nothing = true
is_nothing _ = false

-- what is done for a subscription after its deliveries
abbrev pub after_deliveries : SubName → PlainPartition → Progress
after_deliveries s q = and_then (acknowledge s q (last_handled q (sub_at q s))) (deliver_once_more s)
