-- The text of a history: each call as a line of a script, and its reply in a comment.
use Rattle.std.specs.Prelude.{◌≡◌, ℕ, suc, Bool, true, false, not, List, [], ◌∷◌, ◌++◌, codes, filter, if◌then◌else◌}
use Rattle.std.specs.Fmt.{decimal}
use Rattle.std.specs.List.{flat_map}
use Rattle.stream_model.specs.declared.op.Op.{Op}
use Rattle.stream_model.specs.declared.op.Op.TheVariants as op
use Rattle.stream_model.specs.declared.plain.PlainPartition.{PlainPartition}
use Rattle.stream_model.specs.Replies.{Reply}
use Rattle.stream_model.specs.declared.reply.Reply.TheVariants as reply
use Rattle.turnstile.specs.declared.history.Entry.{Entry}
use Rattle.turnstile.specs.History.{IsLegal, replay}
use Rattle.shared_partition.specs.Partitions.{after, replied}
use Rattle.stream_script.specs.Replies.{reply_line}
use Rattle.script_runs.specs.declared.traces.trace.Calls.{Calls}
use Rattle.script_runs.specs.declared.traces.trace.Calls.TheVariants as calls
use Rattle.script_runs.specs.OpLine.{op_line}

-- replies that say that nothing was found
abbrev pub is_dry : Reply → Bool
is_dry reply.Dry = true
is_dry _ = false

abbrev pub is_none_ready : Reply → Bool
is_none_ready reply.NoneReady = true
is_none_ready _ = false

abbrev pub is_none_due : Reply → Bool
is_none_due reply.NoneDue = true
is_none_due _ = false

abbrev pub is_not_quiet : Reply → Bool
is_not_quiet (reply.NotQuiet why) = true
is_not_quiet _ = false

-- A call that looked for something to do, and there was nothing, or asked whether all was quiet, and it
-- wasn't yet.
abbrev pub found_nothing : Op → Reply → Bool
found_nothing (op.Pull generation most) told = is_dry told
found_nothing (op.Ready grain) told = is_none_ready told
found_nothing (op.Due sub) told = is_none_due told
found_nothing op.Quiet told = is_not_quiet told
found_nothing o told = false

-- whether a call is shown
abbrev pub shows : Calls → Op → Reply → Bool
shows calls.All o told = true
shows calls.Busy o told = not (found_nothing o told)

-- a call: the line that asks for it, and the line of its reply in a comment
abbrev pub call_text : ℕ → Op → Reply → List ℕ
call_text queue o told = op_line queue o ++ codes "\n# " ++ reply_line queue told

-- the same, where the call is shown
abbrev pub shown_text : Calls → ℕ → Op → Reply → List ℕ
shown_text which queue o told = if shows which o told then call_text queue o told else []

abbrev pub entry_text : Calls → ℕ → Entry Op Reply → List ℕ
entry_text which queue e = shown_text which queue e.op e.reply

-- the comment that names the queue
abbrev pub heading : ℕ → List ℕ
heading queue = codes "# queue " ++ decimal queue ++ 10 ∷ []

-- the calls of a queue's history that are shown, as a script
abbrev pub trace_text : Calls → ℕ → List (Entry Op Reply) → List ℕ
trace_text which queue history = heading queue ++ flat_map (entry_text which queue) history

-- the texts of the histories of all queues, from this one on
abbrev pub traces_from : (ℕ → List (Entry Op Reply) → List ℕ) → ℕ → List (List (Entry Op Reply)) → List ℕ
traces_from text queue [] = []
traces_from text queue (history ∷ histories) = text queue history ++ traces_from text (suc queue) histories

-- the calls of a history that found something, did something or were refused
abbrev pub busy : List (Entry Op Reply) → List (Entry Op Reply)
busy history = filter (λ (e : Entry Op Reply). not (found_nothing e.op e.reply)) history

-- What a busy trace shows is a legal history, too, and leaves what all calls leave. Its text is the whole trace of this
-- history.
pub record StaysLegal (p : PlainPartition) (history : List (Entry Op Reply)) : Type 0 where
  pub legal : IsLegal replied after p (busy history)
  pub leaves : replay replied after p (busy history) ≡ replay replied after p history
  pub text : (queue : ℕ) → trace_text calls.Busy queue history ≡ trace_text calls.All queue (busy history)

-- The `busy` calls of a legal history are a legal history, and leave the same partition.
abbrev pub BusyCallsAreLegal : Type 0
BusyCallsAreLegal = (p : PlainPartition) (history : List (Entry Op Reply)) → IsLegal replied after p history → StaysLegal p history
