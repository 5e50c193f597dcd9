-- What a check of a whole script finds.
use Rattle.std.specs.Prelude.{◌≡◌, ℕ, ◌+◌, ◌-◌, ◌≤◌, List, [], ◌∷◌, ◌++◌, codes, get_or, length, map}
use Rattle.std.specs.List.{All, flat_map}
use Rattle.stream_script.specs.declared.parser.command.Fault.{Fault}
use Rattle.stream_script.specs.declared.parser.command.Mode.{Mode}
use Rattle.stream_script.specs.declared.parser.command.Parsed.{Parsed}
use Rattle.stream_script.specs.declared.parser.command.Parsed.TheVariants as parsed
use Rattle.stream_script.specs.Reading.{reading}
use Rattle.script_checker.specs.declared.line.Checked.{Checked}
use Rattle.script_checker.specs.declared.line.Checked.TheVariants as checked
use Rattle.script_checker.specs.declared.line.LineFault.{LineFault}
use Rattle.script_checker.specs.declared.script.Findings.{Findings}
use Rattle.script_checker.specs.Checks.{IsPlacedFault}
use Rattle.script_checker.specs.FaultTexts.{fault_text}
use Rattle.script_checker.specs.PlainSummary.{PlainSummary}
use Rattle.script_checker.specs.Summaries.{empty, noted, summary_text}

-- the fault of a line with its place, where it is one
abbrev pub placed_in : Checked → List LineFault
placed_in (checked.Fault fault) = fault ∷ []
placed_in _ = []

-- the fault of what a line reads as, where it is one
abbrev pub fault_in : Parsed → List Fault
fault_in (parsed.Fault fault) = fault ∷ []
fault_in _ = []

-- with what a line reads as, where that is a command
abbrev pub noted_in : PlainSummary → Parsed → PlainSummary
noted_in summary (parsed.Command command) = noted summary command
noted_in summary _ = summary

-- the faults of lines, the last before which has this number
abbrev pub faults_after : ℕ → Mode → ℕ → List (List ℕ) → List Fault
faults_after queues mode last [] = []
faults_after queues mode last (line ∷ lines) = fault_in (reading queues mode (last + 1) line) ++ faults_after queues mode (last + 1) lines

-- a summary with the commands of such lines
abbrev pub noted_after : ℕ → Mode → ℕ → PlainSummary → List (List ℕ) → PlainSummary
noted_after queues mode last summary [] = summary
noted_after queues mode last summary (line ∷ lines) =
    noted_after queues mode (last + 1) (noted_in summary (reading queues mode (last + 1) line)) lines

-- what the parser tells, without the place
abbrev pub told_of : List LineFault → List Fault
told_of faults = map (λ (fault : LineFault). fault.fault) faults

-- the word of a fault stands so (`IsPlaced`) in the line that the fault names; lines are counted from 1
pub record IsPlacedIn (lines : List (List ℕ)) (fault : LineFault) : Type 0 where
  pub first : 1 ≤ fault.fault.line
  pub within : fault.fault.line ≤ length lines
  pub placed : IsPlacedFault (get_or lines (fault.fault.line - 1) []) fault

-- what a check finds in a script: the faults that the parser tells of the lines, each in its place, and a
-- summary of all commands
pub record HasFound (queues : ℕ) (mode : Mode) (lines : List (List ℕ)) (findings : Findings) : Type 0 where
  pub faults : told_of findings.faults.items ≡ faults_after queues mode 0 lines
  pub placed : All (IsPlacedIn lines) findings.faults.items
  pub summary : findings.summary ≡ noted_after queues mode 0 (empty queues) lines

-- the lines of faults
abbrev pub fault_line : LineFault → List ℕ
fault_line fault = fault_text fault ++ codes "\n"

abbrev pub fault_lines : List LineFault → List ℕ
fault_lines faults = flat_map fault_line faults

-- the text of a check: the lines of the faults, or the summary where there are none
abbrev pub findings_text : List LineFault → PlainSummary → List ℕ
findings_text [] summary = summary_text summary
findings_text (fault ∷ faults) summary = fault_lines (fault ∷ faults)
