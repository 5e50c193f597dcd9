-- What a script does on a cluster, and what a run of it prints.
use Rattle.std.specs.Prelude.{◌≡◌, ℕ, true, false, List, [], ◌∷◌, ◌++◌, length, map, fold, Some, None, Result, Ok, IfErr, OnOk, slice_get}
use Rattle.std.specs.List.{AllByRecursion, AllZip, flat_map, range_with_len}
use Rattle.stream_model.specs.declared.op.Op.{Op}
use Rattle.stream_model.specs.declared.plain.PlainPartition.{PlainPartition}
use Rattle.stream_model.specs.Replies.{Reply}
use Rattle.stream_model.specs.History as told
use Rattle.stream_model.specs.Positions.{empty}
use Rattle.turnstile.specs.declared.history.Entry.{Entry}
use Rattle.turnstile.specs.History.{IsLegal, replay}
use Rattle.shared_partition.specs.Partitions.{TellsOneHistory, after, replied, told_of}
use Rattle.silo_loops.specs.Lines.{QueuePass}
use Rattle.queue_callers.specs.Calls.{IsUnused, turnstiles}
use Rattle.queue_callers.specs.declared.closing.Traces.{Traces}
use Rattle.queue_callers.specs.declared.finishing.Finished.{Finished}
use Rattle.queue_callers.specs.declared.finishing.Finished.TheVariants as finished
use Rattle.silo_threads.specs.declared.config.Config.{Config}
use Rattle.silo_loops.specs.Silos.{SiloView}
use Rattle.silo_threads.specs.Clusters.{ClusterView, HasFinished, IsNew, is_fixed}
use Rattle.queue_callers.specs.Draining.{HasGoneOn}
use Rattle.silo_operators.specs.Operators.{OperatorGoesOn}
use Rattle.queue_callers.specs.declared.asking.Quiet.TheVariants.{All}
use Rattle.script_runs.specs.declared.reader.line.Line.{Line}
use Rattle.script_runs.specs.declared.reader.script_line.ScriptLine.{ScriptLine}
use Rattle.script_runs.specs.declared.reader.script_line.ScriptLine.TheVariants as printed
use Rattle.script_runs.specs.ScriptReport.{line_text, live_silos, script_lines, script_report}
use Rattle.script_runs.specs.Told as script
use Rattle.script_runs.specs.Telling.{AloneProduces, BeginsEmpty, HasTold}
use Rattle.script_runs.specs.Lines.{HasToldFront, IsToldInPart, StopsBy, WaitsUntil, next_command}
use Rattle.script_runs.specs.declared.runs.line.Stop.{Stop}
use Rattle.script_runs.specs.declared.runs.line.Stop.TheVariants as stop
use Rattle.script_runs.specs.declared.runs.outcome.Ran.{Ran}
use Rattle.script_runs.specs.declared.runs.outcome.RunEnd.{RunEnd}
use Rattle.script_runs.specs.declared.runs.outcome.RunEnd.TheVariants as ends
use Rattle.script_runs.specs.declared.runs.outcome.Unfinished.{Unfinished}
use Rattle.script_runs.specs.declared.runs.outcome.Unfinished.TheVariants as unfinished
use Rattle.script_runs.specs.declared.runs.running.ScriptEnd.{ScriptEnd}
use Rattle.script_runs.specs.declared.runs.running.ScriptEnd.TheVariants as end
use Rattle.script_runs.specs.declared.runs.running.ScriptRun.{ScriptRun}

-- the lines whose start token was refused, and then this one where it is such a line
abbrev pub with_printed : List ℕ → ScriptLine → List ℕ
with_printed missed (printed.Miss line) = line ∷ missed
with_printed missed (printed.Refused line) = missed

-- the lines whose start token was refused, by what was printed of them, the last first
abbrev pub missed_in : List ScriptLine → List ℕ
missed_in lines = fold with_printed [] lines

-- the lines of a script were done that printed this: it is what the script says
abbrev pub IsPrinted : ℕ → List Line → List ScriptLine → Type 0
IsPrinted silos lines found = found ≡ script_lines (missed_in found) silos lines

-- The first so many silos live, the turnstiles began with empty partitions, and the caller has made no call.
pub record IsUntouched (silos : ℕ) (v : ClusterView) (caller : List QueuePass) : Type 0 where
  pub live : v.operator.live ≡ range_with_len 0 silos
  pub empty : AllByRecursion BeginsEmpty caller
  pub unused : AllByRecursion IsUnused caller

-- A front of the lines of a script was done, and at most a part of the line behind it. Where nobody else has produced, they
-- printed what the script says, and its producer was told what it says, so that no line is left out but the one that was
-- stopped.
pub record DoesFront (lines : List Line) (v : ClusterView) (old : List QueuePass) (found : List ScriptLine) (new : List QueuePass) : Type 0 where
  pub done : List Line
  pub left : List Line
  pub whole : lines ≡ done ++ left
  pub printed : (silos : ℕ) → IsUntouched silos v old → AloneProduces new → IsPrinted silos done found
  pub told : (silos : ℕ) → IsUntouched silos v old → AloneProduces new → HasToldFront (missed_in found) done left new

-- A front of the lines was done, and the next line, or the wait past the last one, was stopped for this reason.
abbrev pub StopsFront : Stop → List Line → ClusterView → List QueuePass → List ScriptLine → ClusterView → List QueuePass → Type 0
StopsFront why lines v old found w new = (front : DoesFront lines v old found new) × StopsBy why (next_command front.left) v old w new

-- All lines of a script were done, and in one look after them each queue was quiet. Where nobody else has produced, they
-- printed what the script says, its producer was told what it says, and the silos live that it says.
pub record DoesAll (lines : List Line) (v : ClusterView) (old : List QueuePass) (found : List ScriptLine) (w : ClusterView) (new : List QueuePass) : Type 0 where
  pub quiet : WaitsUntil v.looks (Ok All) old new
  pub printed : (silos : ℕ) → IsUntouched silos v old → AloneProduces new → IsPrinted silos lines found
  pub told : (silos : ℕ) → IsUntouched silos v old → AloneProduces new → HasTold (missed_in found) lines new
  pub live : (silos : ℕ) → IsUntouched silos v old → w.operator.live ≡ live_silos silos lines

-- The lines have ended so: all are done, or a front of them. The caller and the cluster have gone on.
pub record EndsLines {T : Type 0} (lines : List Line) (v : ClusterView) (old : List QueuePass) (result : Result T Stop) (found : List ScriptLine) (w : ClusterView) (new : List QueuePass) : Type 0 where
  pub all : OnOk result (DoesAll lines v old found w new)
  pub front : IfErr result (λ why. StopsFront why lines v old found w new)
  pub on : AllZip HasGoneOn old new
  pub at : turnstiles new ≡ turnstiles old
  pub cluster : OperatorGoesOn v.operator w.operator

-- nothing was done
pub record DoesNothing (v : ClusterView) (old : List QueuePass) (found : List ScriptLine) (w : ClusterView) (new : List QueuePass) : Type 0 where
  pub printed : found ≡ []
  pub cluster : w ≡ v
  pub caller : new ≡ old

-- What `run_script` does, by how the script has ended.
abbrev pub EndsScript : ScriptEnd → List Line → ClusterView → List QueuePass → List ScriptLine → ClusterView → List QueuePass → Type 0
EndsScript end.Done lines v old found w new = (is_fixed v ≡ false) × DoesAll lines v old found w new
EndsScript end.Limit lines v old found w new = (is_fixed v ≡ false) × StopsFront stop.Limit lines v old found w new
EndsScript end.NotQuiet lines v old found w new = (is_fixed v ≡ false) × StopsFront stop.NotQuiet lines v old found w new
EndsScript end.RoundLimit lines v old found w new = (is_fixed v ≡ false) × StopsFront stop.RoundLimit lines v old found w new
EndsScript end.Halted lines v old found w new = (is_fixed v ≡ true) × DoesNothing v old found w new

-- what `run_script` printed and told, by how it ended
abbrev pub AnswersScript : List Line → ClusterView → List QueuePass → ScriptRun → ClusterView → List QueuePass → Type 0
AnswersScript lines v old ran w new = EndsScript ran.end lines v old ran.printed.items w new

-- The history of a queue is legal from the empty partition of the configuration, and the partition is what it leaves. So
-- the headline holds of it, and each law of every legal history.
pub record IsLegalHistory (config : Config) (history : List (Entry Op Reply)) (partition : PlainPartition) : Type 0 where
  pub legal : IsLegal replied after (empty config.blocks config.limits) history
  pub leaves : partition ≡ replay replied after (empty config.blocks config.limits) history
  pub headline : TellsOneHistory history

-- In the history of each queue producers asked and were told what the script tells.
abbrev pub TellScript : List ℕ → List Line → List (List (Entry Op Reply)) → Type 0
TellScript missed lines histories =
    (queue : ℕ) (history : List (Entry Op Reply)) → slice_get histories queue ≡ Some history → script.producers_entries (told_of history) ≡ script.told missed queue lines

-- In the history of each queue they asked and were told what the script tells of the lines that are done, and past that
-- what the next one told until it was stopped at some queue.
abbrev pub TellFront : List ℕ → List Line → List Line → List (List (Entry Op Reply)) → Type 0
TellFront missed done left histories =
    (at : ℕ)
    × ((queue : ℕ) (history : List (Entry Op Reply)) → slice_get histories queue ≡ Some history
    → (rest : List told.Entry) × (script.producers_entries (told_of history) ≡ script.told missed queue done ++ rest) × IsToldInPart at (next_command left) queue rest)

module _ {H : Type 0} (entries : H → List (Entry Op Reply)) where
  -- there is a history for each queue, and it is legal
  pub record AreLegal (config : Config) (traces : Traces H) : Type 0 where
    pub count : length traces.histories.items ≡ config.queues
    pub each : AllZip (IsLegalHistory config) (map entries traces.histories.items) traces.partitions.items

  -- The histories of a run are legal, and lead to the partitions beside them, where all passes came back.
  abbrev pub LeavesLegalTraces : Config → RunEnd H → Type 0
  LeavesLegalTraces config (ends.Report text traces) = AreLegal config traces
  LeavesLegalTraces config (ends.Unfinished why (Some traces)) = AreLegal config traces
  LeavesLegalTraces config (ends.Unfinished why None) = Unit {0}

  abbrev pub TraceScript : List ℕ → List Line → Traces H → Type 0
  TraceScript missed lines traces = TellScript missed lines (map entries traces.histories.items)

  -- What a run has printed that ended so, and its report. A run without a report did a front of the lines, and no line that
  -- was told is left out but the one that was stopped. Where passes are missing, which is called a limit, nothing is said of
  -- the lines.
  abbrev pub EndsRun : Config → List Line → List ScriptLine → RunEnd H → Type 0
  EndsRun config lines found (ends.Report text traces) =
      IsPrinted config.silos lines found × (text.items ≡ script_report config.queues (missed_in found) lines)
      × TraceScript (missed_in found) lines traces
  EndsRun config lines found (ends.Unfinished why (Some traces)) =
      (done left : List Line) × (lines ≡ done ++ left) × IsPrinted config.silos done found
      × TellFront (missed_in found) done left (map entries traces.histories.items)
  EndsRun config lines found (ends.Unfinished why None) = why ≡ unfinished.Limit

  -- What `run` printed and told, by how it ended: what the script says of the lines that were done. Where it
  -- ends with a report these are all lines, the report is the script's, and so is what producers asked and
  -- were told at each queue.
  abbrev pub RunsScript : Config → List Line → Ran H → Type 0
  RunsScript config lines ran = EndsRun config lines ran.printed.items ran.end

-- Why a run has no report, by how its script and its cluster have ended: a limit goes first, then too many rounds.
abbrev pub why_after : ScriptEnd → Unfinished → Unfinished
why_after end.Limit why = unfinished.Limit
why_after end.Halted why = unfinished.Limit
why_after end.RoundLimit unfinished.NotQuiet = unfinished.RoundLimit
why_after _ why = why

-- how a run has ended, by how its script and its cluster have ended
abbrev pub run_end : {H : Type 0} → Finished H → ScriptEnd → RunEnd H
run_end (finished.Report text traces) end.Done = ends.Report text traces
run_end (finished.Report text traces) how = ends.Unfinished (why_after how unfinished.NotQuiet) (Some traces)
run_end (finished.NotQuiet queue why traces) how = ends.Unfinished (why_after how unfinished.NotQuiet) (Some traces)
run_end (finished.RoundLimit traces) how = ends.Unfinished (why_after how unfinished.RoundLimit) (Some traces)
run_end (finished.Limit traces) how = ends.Unfinished (why_after how unfinished.Limit) (Some traces)
run_end (finished.NotAll queue missing) how = ends.Unfinished unfinished.Limit None
run_end finished.InUse how = ends.Unfinished unfinished.Limit None

-- A run made a cluster, did the script on it and ended it, and tells what came of both. The caller that went into the
-- end has gone on from the new cluster's, and the loops of the silos came back as these.
pub record RunsAndEnds {H : Type 0} (entries : H → List (Entry Op Reply)) (config : Config) (lines : List Line) (ran : Ran H) : Type 0 where
  pub cluster : ClusterView
  pub caller : List QueuePass
  pub is_new : IsNew config cluster caller
  pub script : ScriptRun
  pub later : ClusterView
  pub now : List QueuePass
  pub on : AllZip HasGoneOn caller now
  pub does : AnswersScript lines cluster caller script later now
  pub back : List SiloView
  pub finished : Finished H
  pub ends : HasFinished entries later (now ∷ []) back finished
  pub tells : ran ≡ record { printed = script.printed; end = run_end finished script.end }

-- what goes out of a run: its lines, and the report where there is one
abbrev pub report_in : {H : Type 0} → RunEnd H → List ℕ
report_in (ends.Report text traces) = text.items
report_in (ends.Unfinished why traces) = []

-- the whole text of a run: the lines that were printed, and the report
abbrev pub text_of : {H : Type 0} → Ran H → List ℕ
text_of ran = flat_map line_text ran.printed.items ++ report_in ran.end
