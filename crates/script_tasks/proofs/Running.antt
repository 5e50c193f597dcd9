-- A script that was read and run, and what was written of it.
use Rattle.script_tasks.proofs.Prelude.{◌≡◌, inl, inr, ℕ, List, [], ◌∷◌, ◌++◌, length, map, Option, Some, None, Ok, refl, ap, subst, ◌∙◌, append-nil, length-map, Appends, Consumes, IsAtEnd, AllZip, flat_map, Reply, Op, asked_entries}
use Rattle.std.specs.Prelude.{IfSome}
use Rattle.turnstile.specs.declared.asked.AskedHistory.{AskedHistory}
use Rattle.turnstile.specs.declared.history.Entry.{Entry}
use Rattle.stream_model.specs.declared.plain.PlainPartition.{PlainPartition}
use Rattle.silo_threads.specs.declared.config.Config.{Config}
use Rattle.queue_callers.specs.declared.closing.Traces.{Traces}
use Rattle.script_runs.specs.declared.reader.line.Line.{Line}
use Rattle.script_runs.specs.declared.reader.script_line.ScriptLine.{ScriptLine}
use Rattle.script_runs.specs.declared.runs.outcome.RunEnd.{RunEnd}
use Rattle.script_runs.specs.declared.runs.outcome.RunEnd.TheVariants as ends
use Rattle.script_runs.specs.ScriptReport.{line_text, script_text}
use Rattle.script_runs.specs.Runs.{AreLegal, EndsRun, IsLegalHistory, LeavesLegalTraces, missed_in, report_in}
use Rattle.script_tasks.specs.declared.shown.Shown.{Shown}
use Rattle.script_tasks.specs.declared.summary.Detail.{Detail}
use Rattle.script_tasks.specs.Printing.{AreLegalAt, PrintsRun, PrintsTrace, commands_of, ended, printed_text, text_left}

-- what was read is all that there was
pub whole-input : (remaining left : Option (List ℕ)) (script : List ℕ) → Consumes remaining left script → IsAtEnd left → IfSome remaining (λ input. input ≡ script)
whole-input None left script read end = tt
whole-input (Some input) None script read end = absurd read
whole-input (Some input) (Some rest) script read end = read ∙ ap (λ (bytes : List ℕ). script ++ bytes) end ∙ append-nil script

pub each-legal : (config : Config) (histories : List (List (Entry Op Reply))) (partitions : List PlainPartition) → AllZip (IsLegalHistory config) histories partitions → AreLegalAt config histories
each-legal config [] [] all = tt
each-legal config [] (p ∷ ps) all = absurd all
each-legal config (h ∷ hs) [] all = absurd all
each-legal config (h ∷ hs) (p ∷ ps) all = (all.0.legal, each-legal config hs ps all.1)

module _ (config : Config) {H : Type 0} (entries : H → List (Entry Op Reply)) where
  are-legal : (traces : Traces H) → AreLegal entries config traces → (length (map entries traces.histories.items) ≡ config.queues) × AreLegalAt config (map entries traces.histories.items)
  are-legal traces legal = (length-map traces.histories.items entries ∙ legal.count, each-legal config (map entries traces.histories.items) traces.partitions.items legal.each)

-- what was written of a run that read the script so
module _ (config : Config) (script : List ℕ) (old new : Option (List ℕ)) (lines : List Line) (found : List ScriptLine) (read : commands_of config.queues script ≡ Ok lines) where
  pub run-printed : {H : Type 0} (entries : H → List (Entry Op Reply)) (much : Detail) (end : RunEnd H) → EndsRun entries config lines found end → LeavesLegalTraces entries config end
      → Appends old new (printed_text much (flat_map line_text found ++ report_in end)) → PrintsRun config much script old new (ended end)
  run-printed entries much (ends.Report text traces) runs legal writes =
      let left = are-legal config entries traces legal in
      let whole : flat_map line_text found ++ text.items ≡ script_text config.queues (missed_in found) config.silos lines = λ i. flat_map line_text (runs.0 i) ++ runs.1 i in
      (lines, missed_in found, map entries traces.histories.items, read, left.0, left.1, runs.2, subst (λ (text : List ℕ). Appends old new (printed_text much text)) whole writes)
  run-printed entries much (ends.Unfinished why (Some traces)) runs legal writes =
      let left = are-legal config entries traces legal in
      let front = append-nil (flat_map line_text found) ∙ ap (λ (printed : List ScriptLine). flat_map line_text printed) runs.3 in
      (lines, read, inl (runs.0, runs.1, missed_in found, map entries traces.histories.items, runs.2, left.0, left.1, runs.4, subst (λ (text : List ℕ). Appends old new (printed_text much text)) front writes))
  run-printed entries much (ends.Unfinished why None) runs legal writes =
      (lines, read, inr (runs, found, subst (λ (text : List ℕ). Appends old new (printed_text much text)) (append-nil (flat_map line_text found)) writes))

  pub trace-printed : (shown : Shown) (end : RunEnd (AskedHistory Op Reply)) → EndsRun asked_entries config lines found end → LeavesLegalTraces asked_entries config end
      → Appends old new (text_left shown end) → PrintsTrace config shown script old new (ended end)
  trace-printed shown (ends.Report text traces) runs legal writes =
      let left = are-legal config asked_entries traces legal in
      (lines, missed_in found, map asked_entries traces.histories.items, read, left.0, left.1, runs.2, writes)
  trace-printed shown (ends.Unfinished why (Some traces)) runs legal writes =
      let left = are-legal config asked_entries traces legal in
      (lines, runs.0, runs.1, missed_in found, map asked_entries traces.histories.items, read, runs.2, inl left.0, left.1, runs.4, writes)
  trace-printed shown (ends.Unfinished why None) runs legal writes = (lines, [], lines, [], [], read, refl, inr (runs, refl), tt, (0, λ queue history at. absurd cc), writes)
