-- What a run of a script on silos writes, from the bytes of the script alone.
use Rattle.std.specs.Prelude.{◌≡◌, ◌⊎◌, ℕ, Bool, true, false, ◌==◌, List, [], ◌∷◌, ◌++◌, map, Option, Some, None, Result, Ok, Err, length, nat_lt, ⊤, if◌then◌else◌}
use Rattle.std.specs.Io.KnownBytes.{Appends, Keeps}
use Rattle.std.specs.List.{AllByRecursion, flat_map}
use Rattle.stream_model.specs.declared.op.Op.{Op}
use Rattle.stream_model.specs.Replies.{Reply}
use Rattle.stream_model.specs.Positions.{empty}
use Rattle.turnstile.specs.declared.history.Entry.{Entry}
use Rattle.turnstile.specs.declared.asked.AskedHistory.{AskedHistory}
use Rattle.turnstile.specs.Asked.{asked_entries}
use Rattle.turnstile.specs.History.{IsLegal}
use Rattle.shared_partition.specs.Partitions.{after, replied}
use Rattle.script_runs.specs.declared.reader.line.Line.{Line}
use Rattle.script_runs.specs.declared.reader.script_line.ScriptLine.{ScriptLine}
use Rattle.script_runs.specs.ScriptReport.{line_text, script_lines, script_text}
use Rattle.stream_script.specs.declared.parser.command.Fault.{Fault}
use Rattle.stream_script.specs.Lines.{lines_of}
use Rattle.stream_script.specs.declared.parser.limits.TheConstants.{MOST_SCRIPT_BYTES}
use Rattle.script_runs.specs.Scripts.{lines_after}
use Rattle.script_runs.specs.Traces.{trace_text, traces_from}
use Rattle.script_tasks.specs.declared.shown.Shown.{Shown}
use Rattle.script_tasks.specs.declared.summary.Detail.{Detail}
use Rattle.script_tasks.specs.declared.summary.Detail.TheVariants as detail
use Rattle.queue_callers.specs.declared.closing.Traces.{Traces}
use Rattle.silo_threads.specs.declared.config.Config.{Config}
use Rattle.script_runs.specs.declared.runs.outcome.Ran.{Ran}
use Rattle.script_runs.specs.declared.runs.outcome.RunEnd.{RunEnd}
use Rattle.script_runs.specs.declared.runs.outcome.RunEnd.TheVariants as ends
use Rattle.script_runs.specs.declared.runs.outcome.Unfinished.{Unfinished}
use Rattle.script_runs.specs.declared.runs.outcome.Unfinished.TheVariants as unfinished
use Rattle.script_runs.specs.Runs.{RunsScript, TellFront, TellScript}
use Rattle.script_tasks.specs.declared.fault.ProgramFault.{ProgramFault}
use Rattle.script_tasks.specs.declared.fault.ProgramFault.TheVariants as fault
use Rattle.stream_script.specs.declared.simulate.SimError.{SimError}
use Rattle.stream_script.specs.declared.simulate.SimError.TheVariants as error
use Rattle.stream_script.specs.Simulation.{too_long}

-- the commands of a script that is to be run on so many queues, with the numbers of their lines, or its fault
abbrev pub commands_of : ℕ → List ℕ → Result (List Line) Fault
commands_of queues script =
    if nat_lt MOST_SCRIPT_BYTES (length script) then Err too_long else lines_after queues 0 (lines_of script)

-- the history is legal from the empty partition of the configuration, and so is each of these
abbrev pub IsLegalAt : Config → List (Entry Op Reply) → Type 0
IsLegalAt config history = IsLegal replied after (empty config.blocks config.limits) history

abbrev pub AreLegalAt : Config → List (List (Entry Op Reply)) → Type 0
AreLegalAt config histories = AllByRecursion (IsLegalAt config) histories

-- the line of an event in a report: it alone begins with a space
abbrev pub is_event_line : List ℕ → Bool
is_event_line [] = false
is_event_line (byte ∷ bytes) = byte == 32

abbrev pub kept_line : List ℕ → List ℕ
kept_line line = if is_event_line line then [] else line ++ 10 ∷ []

-- a text without the lines of events, which begin with a space
abbrev pub without_events : List ℕ → List ℕ
without_events text = flat_map kept_line (lines_of text)

-- what is printed of the text of a run
abbrev pub printed_text : Detail → List ℕ → List ℕ
printed_text detail.Events text = text
printed_text detail.Counts text = without_events text

-- whether a queue is the one that is shown, or all are
abbrev pub is_seen : Option ℕ → ℕ → Bool
is_seen None queue = true
is_seen (Some one) queue = one == queue

-- what is shown of a queue's history
abbrev pub seen : Shown → ℕ → List (Entry Op Reply) → List ℕ
seen shown queue history = if is_seen shown.queue queue then trace_text shown.calls queue history else []

-- What was written of a run without a report: what the lines print that are done. There are legal histories of all queues
-- in which producers asked and were told what the script tells of these lines, and past that no more than the line behind
-- them may have told until it was stopped.
abbrev pub PrintsFront : Config → Detail → List Line → Option (List ℕ) → Option (List ℕ) → Type 0
PrintsFront config much lines old new =
    (done left : List Line) × (missed : List ℕ) × (histories : List (List (Entry Op Reply))) × (lines ≡ done ++ left)
    × (length histories ≡ config.queues) × AreLegalAt config histories × TellFront missed done left histories
    × Appends old new (printed_text much (flat_map line_text (script_lines missed config.silos done)))

-- Where passes are missing in the end, which is called a limit, lines were written of which nothing is said.
abbrev pub PrintsSome : Detail → Unfinished → Option (List ℕ) → Option (List ℕ) → Type 0
PrintsSome much why old new = (why ≡ unfinished.Limit) × (found : List ScriptLine) × Appends old new (printed_text much (flat_map line_text found))

-- What was written, by how the run ended, whole or without the lines of events. Where it ended well, it is the text of the
-- script, whatever the silos did: that
-- leaves open only which lines were refused because their start token was gone, and these are so in legal histories of all
-- queues, in which producers asked and were told what the script tells. Where the script can't be read or is faulty, or
-- memory ran out, nothing was written.
abbrev pub PrintsRun : Config → Detail → List ℕ → Option (List ℕ) → Option (List ℕ) → Result Unit ProgramFault → Type 0
PrintsRun config much script old new (Ok done) =
    (lines : List Line) × (missed : List ℕ) × (histories : List (List (Entry Op Reply))) × (commands_of config.queues script ≡ Ok lines)
    × (length histories ≡ config.queues) × AreLegalAt config histories × TellScript missed lines histories
    × Appends old new (printed_text much (script_text config.queues missed config.silos lines))
PrintsRun config much script old new (Err (fault.Script (error.ScriptFault found))) =
    (commands_of config.queues script ≡ Err found) × Keeps old new
PrintsRun config much script old new (Err (fault.Script error.ReadFault)) = Keeps old new
PrintsRun config much script old new (Err (fault.Script error.Memory)) = Keeps old new
PrintsRun config much script old new (Err (fault.Script error.WriteFault)) = ⊤
PrintsRun config much script old new (Err (fault.Unfinished why)) =
    (lines : List Line) × (commands_of config.queues script ≡ Ok lines) × (PrintsFront config much lines old new ⊎ PrintsSome much why old new)
PrintsRun config much script old new (Err (fault.CommandLine error)) = ⊥

-- What a trace has written, by how the run ended: what is shown of the histories of all queues, in which producers asked and were told
-- what the script tells. Where the run has no report, it wrote the histories as far as they went, which tell a front of the
-- script and at most a part of the line behind it. Where passes are missing in the end, which is called a limit, that is
-- nothing.
abbrev pub PrintsTrace : Config → Shown → List ℕ → Option (List ℕ) → Option (List ℕ) → Result Unit ProgramFault → Type 0
PrintsTrace config shown script old new (Ok done) =
    (lines : List Line) × (missed : List ℕ) × (histories : List (List (Entry Op Reply))) × (commands_of config.queues script ≡ Ok lines)
    × (length histories ≡ config.queues) × AreLegalAt config histories × TellScript missed lines histories
    × Appends old new (traces_from (seen shown) 0 histories)
PrintsTrace config shown script old new (Err (fault.Script (error.ScriptFault found))) =
    (commands_of config.queues script ≡ Err found) × Keeps old new
PrintsTrace config shown script old new (Err (fault.Script error.ReadFault)) = Keeps old new
PrintsTrace config shown script old new (Err (fault.Script error.Memory)) = ⊤
PrintsTrace config shown script old new (Err (fault.Script error.WriteFault)) = ⊤
PrintsTrace config shown script old new (Err (fault.Unfinished why)) =
    (lines done left : List Line) × (missed : List ℕ) × (histories : List (List (Entry Op Reply))) × (commands_of config.queues script ≡ Ok lines)
    × (lines ≡ done ++ left) × ((length histories ≡ config.queues) ⊎ ((why ≡ unfinished.Limit) × (histories ≡ [])))
    × AreLegalAt config histories × TellFront missed done left histories
    × Appends old new (traces_from (seen shown) 0 histories)
PrintsTrace config shown script old new (Err (fault.CommandLine error)) = ⊥

module _ {H : Type 0} (entries : H → List (Entry Op Reply)) where
  -- What came of a script that was to be run: its run, or why there is none.
  abbrev pub RunsSource : Config → List ℕ → Result (Ran H) ProgramFault → Type 0
  RunsSource config script (Ok ran) =
      (lines : List Line) × (commands_of config.queues script ≡ Ok lines) × RunsScript entries config lines ran
  RunsSource config script (Err (fault.Script (error.ScriptFault found))) = commands_of config.queues script ≡ Err found
  RunsSource config script (Err (fault.Script error.ReadFault)) = ⊤
  RunsSource config script (Err (fault.Script error.Memory)) = ⊤
  RunsSource config script (Err _) = ⊥

-- the script couldn't be read
abbrev pub is_unread : {A : Type 0} → Result A ProgramFault → Bool
is_unread (Err (fault.Script error.ReadFault)) = true
is_unread _ = false

-- all of a text was written
abbrev pub WritesText : Option (List ℕ) → Option (List ℕ) → List ℕ → Result Unit SimError → Type 0
WritesText old new text (Ok done) = Appends old new text
WritesText old new text (Err error.WriteFault) = ⊤
WritesText old new text (Err _) = ⊥

-- a write failed, or memory ran out
abbrev pub IsUnwritten : SimError → Type 0
IsUnwritten error.WriteFault = ⊤
IsUnwritten error.Memory = ⊤
IsUnwritten _ = ⊥

-- all of a text was written that is made while it is written
abbrev pub WritesTraces : Option (List ℕ) → Option (List ℕ) → List ℕ → Result Unit SimError → Type 0
WritesTraces old new text (Ok done) = Appends old new text
WritesTraces old new text (Err e) = IsUnwritten e

-- how the program ends behind a run
abbrev pub ended : {H : Type 0} → RunEnd H → Result Unit ProgramFault
ended (ends.Report report traces) = Ok tt
ended (ends.Unfinished why left) = Err (fault.Unfinished why)

-- the histories of all queues as they are written
abbrev pub traces_text : Shown → Traces (AskedHistory Op Reply) → List ℕ
traces_text shown traces = traces_from (seen shown) 0 (map asked_entries traces.histories.items)

-- so are those that a run has left, and none where passes are missing
abbrev pub text_left : Shown → RunEnd (AskedHistory Op Reply) → List ℕ
text_left shown (ends.Report text traces) = traces_text shown traces
text_left shown (ends.Unfinished why (Some traces)) = traces_text shown traces
text_left shown (ends.Unfinished why None) = []
