-- Whether each queue of a cluster is quiet.
use Rattle.std.specs.Prelude.{◌≡◌, ℕ, zero, suc, List, [], ◌∷◌, Option, Some, None, Result, Ok, Err}
use Rattle.std.specs.List.{AllZip}
use Rattle.stream_model.specs.declared.op.Op.TheVariants as op
use Rattle.stream_model.specs.declared.reply.Pending.{Pending}
use Rattle.stream_model.specs.Replies.{Reply}
use Rattle.stream_model.specs.declared.reply.Reply.TheVariants as reply
use Rattle.turnstile.specs.declared.turnstile.Refusal.{Refusal}
use Rattle.silo_loops.specs.Lines.{QueuePass}
use Rattle.queue_callers.specs.Calls.{QueueCalls}
use Rattle.queue_callers.specs.declared.asking.Quiet.{Quiet}
use Rattle.queue_callers.specs.declared.asking.Quiet.TheVariants.{All, NotQuiet}

-- what is left to do, where the reply says so
abbrev pub pending_of : Reply → Option Pending
pending_of (reply.NotQuiet why) = Some why
pending_of _ = None

-- the pass has asked whether its queue is quiet, and this came of it
abbrev pub Asks : Result Reply Refusal → QueuePass → QueuePass → Type 0
Asks result p q = QueueCalls p op.Quiet result q

-- the queue of the pass was quiet
abbrev pub IsQuiet : QueuePass → QueuePass → Type 0
IsQuiet p q = Asks (Ok reply.IsQuiet) p q

-- This came of the call at this queue. Each before it was quiet, and the passes behind it are as before
abbrev pub AsksUpTo : ℕ → Result Reply Refusal → List QueuePass → List QueuePass → Type 0
AsksUpTo queue result [] new = ⊥
AsksUpTo queue result (p ∷ ps) [] = ⊥
AsksUpTo zero result (p ∷ ps) (q ∷ qs) = Asks result p q × (qs ≡ ps)
AsksUpTo (suc queue) result (p ∷ ps) (q ∷ qs) = IsQuiet p q × AsksUpTo queue result ps qs

-- queues were asked in order, up to the first that isn't quiet or refuses
abbrev pub AsksQuiet : List QueuePass → Result Quiet Refusal → List QueuePass → Type 0
AsksQuiet old (Ok All) new = AllZip IsQuiet old new
AsksQuiet old (Ok (NotQuiet queue why)) new = AsksUpTo queue (Ok (reply.NotQuiet why)) old new
AsksQuiet old (Err refusal) new = (queue : ℕ) × AsksUpTo queue (Err refusal) old new
