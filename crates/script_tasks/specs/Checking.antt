-- What a check of a script writes, from the bytes of the script alone.
use Rattle.std.specs.Prelude.{◌≡◌, ◌⊎◌, ◌<◌, ℕ, List, [], ◌∷◌, length, Option, Result, Ok, Err, ⊤}
use Rattle.std.specs.Io.KnownBytes.{Appends, Keeps}
use Rattle.stream_script.specs.Lines.{lines_of}
use Rattle.stream_script.specs.declared.parser.limits.TheConstants.{MOST_SCRIPT_BYTES}
use Rattle.script_checker.specs.declared.line.LineFault.{LineFault}
use Rattle.script_checker.specs.declared.script.Findings.{Findings}
use Rattle.script_checker.specs.Scripts.{HasFound, findings_text}
use Rattle.script_tasks.specs.declared.fault.ProgramFault.{ProgramFault}
use Rattle.script_tasks.specs.declared.fault.ProgramFault.TheVariants as fault
use Rattle.script_tasks.specs.declared.options.CheckConfig.{CheckConfig}
use Rattle.stream_script.specs.Simulation.{too_long}
use Rattle.stream_script.specs.declared.simulate.SimError.TheVariants as error

-- the first fault of a check, or none
abbrev pub EndsCheck : List LineFault → Result Unit ProgramFault → Type 0
EndsCheck [] result = result ≡ Ok tt
EndsCheck (first ∷ others) result = result ≡ Err (fault.Script (error.ScriptFault first.fault))

-- each line was checked, and what was found was written
abbrev pub WritesCheck : CheckConfig → List ℕ → Option (List ℕ) → Option (List ℕ) → Result Unit ProgramFault → Type 0
WritesCheck config script old new result =
    (findings : Findings) × HasFound config.queues config.mode (lines_of script) findings
    × Appends old new (findings_text findings.faults.items findings.summary) × EndsCheck findings.faults.items result

-- What was written, by how the check ended. Where the script can't be read or is too long, or memory ran out, nothing was
-- written.
abbrev pub PrintsCheck : CheckConfig → List ℕ → Option (List ℕ) → Option (List ℕ) → Result Unit ProgramFault → Type 0
PrintsCheck config script old new (Ok done) = WritesCheck config script old new (Ok done)
PrintsCheck config script old new (Err (fault.Script (error.ScriptFault found))) =
    ((found ≡ too_long) × (MOST_SCRIPT_BYTES < length script) × Keeps old new) ⊎ WritesCheck config script old new (Err (fault.Script (error.ScriptFault found)))
PrintsCheck config script old new (Err (fault.Script error.ReadFault)) = Keeps old new
PrintsCheck config script old new (Err (fault.Script error.Memory)) = Keeps old new
PrintsCheck config script old new (Err (fault.Script error.WriteFault)) = ⊤
PrintsCheck config script old new (Err (fault.Unfinished why)) = ⊥
PrintsCheck config script old new (Err (fault.CommandLine error)) = ⊥
