-- The whole end of a cluster.
use Rattle.std.specs.Prelude.{◌≡◌, ◌≢◌, ◌⊎◌, ℕ, false, true, List, ◌++◌, map, Contains, Option, Some, None, Ok, Err, slice_get}
use Rattle.std.specs.List.{AllByRecursion, AllZip}
use Rattle.stream_ident.specs.declared.ident.SubName.{SubName}
use Rattle.stream_model.specs.declared.op.Op.{Op}
use Rattle.stream_model.specs.declared.plain.PlainPartition.{PlainPartition}
use Rattle.stream_model.specs.Replies.{Reply}
use Rattle.stream_model.specs.declared.reply.Reply.TheVariants as reply
use Rattle.stream_model.specs.History.{handled_events, is_closed, owed_events}
use Rattle.stream_model.specs.Looks.{quiet}
use Rattle.stream_script.specs.Report.{report_of}
use Rattle.turnstile.specs.declared.history.Entry.{Entry}
use Rattle.turnstile.specs.declared.turnstile.Refusal.TheVariants.{HistoryFull}
use Rattle.turnstile.specs.Calls.{numbers_of}
use Rattle.turnstile.specs.Closing.{HasSome}
use Rattle.turnstile.specs.History.{Claims}
use Rattle.shared_partition.specs.Partitions.{told_of}
use Rattle.stream_model.specs.Producers.{is_producer}
use Rattle.silo_loops.specs.Lines.{QueuePass}
use Rattle.silo_loops.specs.Passes.{CallsAlone}
use Rattle.queue_callers.specs.declared.asking.Quiet.{Quiet}
use Rattle.queue_callers.specs.declared.asking.Quiet.TheVariants.{All, NotQuiet}
use Rattle.queue_callers.specs.declared.ends.LoopEnds.{LoopEnds}
use Rattle.queue_callers.specs.declared.finishing.Finished.{Finished}
use Rattle.queue_callers.specs.declared.finishing.Finished.TheVariants as finished
use Rattle.queue_callers.specs.Asking.{AsksQuiet}
use Rattle.queue_callers.specs.Closing.{AreTracesOf, IsMissingFirst}

-- what came of asking the queues: an answer, or none where the history of one was full
abbrev pub CameTo : Option Quiet → List QueuePass → List QueuePass → Type 0
CameTo (Some quiet) old new = AsksQuiet old (Ok quiet) new
CameTo None old new = AsksQuiet old (Err HistoryFull) new

-- no loop has come to a limit
pub record IsUnlimited (ends : LoopEnds) : Type 0 where
  pub limit : ends.limit ≡ false
  pub rounds : ends.rounds ≡ false

-- the partition is quiet, and each open subscription has handled all that it is owed
pub record IsDone (history : List (Entry Op Reply)) (partition : PlainPartition) : Type 0 where
  pub is_quiet : quiet partition ≡ reply.IsQuiet
  pub handled : (s : SubName) → is_closed (told_of history) s ≡ false → handled_events (told_of history) s ≡ owed_events (told_of history) s

module _ {H : Type 0} (entries : H → List (Entry Op Reply)) where
  -- What each answer says of how the loops have ended, of what came of asking, and of the passes in the end: a report
  -- and what isn't quiet come only where no loop has come to a limit, and too many rounds only where nothing else is
  -- limited.
  abbrev pub Answers : LoopEnds → Option Quiet → List QueuePass → Finished H → Type 0
  Answers ends asked last (finished.Report text traces) =
      IsUnlimited ends × (asked ≡ Some All) × AreTracesOf entries last traces
      × AllZip IsDone (map entries traces.histories.items) traces.partitions.items
      × (text.items ≡ report_of traces.partitions.items)
  Answers ends asked last (finished.NotQuiet queue why traces) = IsUnlimited ends × (asked ≡ Some (NotQuiet queue why)) × AreTracesOf entries last traces
  Answers ends asked last (finished.RoundLimit traces) = (ends.rounds ≡ true) × (ends.limit ≡ false) × (asked ≢ None) × AreTracesOf entries last traces
  Answers ends asked last (finished.Limit traces) = ((ends.limit ≡ true) ⊎ (asked ≡ None)) × AreTracesOf entries last traces
  Answers ends asked last (finished.NotAll queue missing) = IsMissingFirst queue missing last
  Answers ends asked last finished.InUse = Unit {0}

  -- What each answer of `finish` says of loops, queues and passes. No loop wanted for memory. The passes were
  -- asked whether each queue is quiet, and what is answered is said of what they were then.
  pub record IsFinished (ends : LoopEnds) (passes : List QueuePass) (answer : Finished H) : Type 0 where
    pub memory : ends.memory ≡ false
    pub asked : Option Quiet
    pub last : List QueuePass
    pub came_to : CameTo asked passes last
    pub answers : Answers ends asked last answer

  -- a property holds of the histories, where there are any
  abbrev pub OnHistories : (List (List (Entry Op Reply)) → Type 0) → Finished H → Type 0
  OnHistories P (finished.Report text traces) = P (map entries traces.histories.items)
  OnHistories P (finished.NotQuiet queue why traces) = P (map entries traces.histories.items)
  OnHistories P (finished.RoundLimit traces) = P (map entries traces.histories.items)
  OnHistories P (finished.Limit traces) = P (map entries traces.histories.items)
  OnHistories P (finished.NotAll queue missing) = Unit {0}
  OnHistories P finished.InUse = Unit {0}

-- what the pass has seen is a beginning of the history, and past it no entry has a number of the pass
abbrev pub HasBegun : QueuePass → List (Entry Op Reply) → Type 0
HasBegun p history = Claims (numbers_of p) p.seen history

-- what the pass has seen is a beginning of the history, and past it no pass that was joined to it has made a call
abbrev pub HasSeenFront : QueuePass → List (Entry Op Reply) → Type 0
HasSeenFront p history = (later : List (Entry Op Reply)) × (history ≡ p.seen ++ later) × CallsAlone p later

-- What each pass of a line and of a caller had seen begins the history of its queue, past which no caller has
-- made a call, nor any pass that a line took in.
pub record HaveBegun (lines : List QueuePass) (callers : List (List QueuePass)) (histories : List (List (Entry Op Reply))) : Type 0 where
  pub of_lines : AllZip HasSeenFront lines histories
  pub of_callers : AllByRecursion (λ caller. AllZip HasBegun caller histories) callers

-- the caller made the call at this queue, by its pass there or one that was joined to it
abbrev pub HasMade : ℕ → Entry Op Reply → List QueuePass → Type 0
HasMade queue e caller = (p : QueuePass) × (slice_get caller queue ≡ Some p) × Contains (numbers_of p) e.number

-- Each producer's call (publish, subscribe, unsubscribe, add a rule) in a history is a caller's.
abbrev pub CallersAloneProduce : List (List QueuePass) → List (List (Entry Op Reply)) → Type 0
CallersAloneProduce callers histories =
    (queue : ℕ) (history : List (Entry Op Reply)) (e : Entry Op Reply) → slice_get histories queue ≡ Some history → Contains history e
    → is_producer e.op ≡ true → HasSome (HasMade queue e) callers
