-- A whole script that is to be run on silos.
use Rattle.std.specs.Prelude.{◌≡◌, ℕ, ◌<◌, ◌+◌, true, List, [], ◌∷◌, Result, Ok, Err, ⊤}
use Rattle.std.specs.List.{AllByRecursion}
use Rattle.stream_ident.specs.declared.limits.TheConstants.{MOST_SILOS}
use Rattle.stream_model.specs.Producers.{is_producer}
use Rattle.stream_script.specs.declared.parser.command.Command.{Command}
use Rattle.stream_script.specs.declared.parser.command.Command.TheVariants as command
use Rattle.stream_script.specs.declared.parser.command.Fault.{Fault}
use Rattle.stream_script.specs.declared.parser.command.Mode.TheVariants as mode
use Rattle.stream_script.specs.declared.parser.command.Parsed.{Parsed}
use Rattle.stream_script.specs.declared.parser.command.Parsed.TheVariants as parsed
use Rattle.stream_script.specs.Forms.{op_of}
use Rattle.stream_script.specs.Reading.{reading}
use Rattle.script_runs.specs.declared.reader.line.Line.{Line}
use Rattle.script_runs.specs.declared.reader.reading.Script.{Script}
use Rattle.script_runs.specs.declared.reader.reading.Script.TheVariants as script

-- a command that may stand in a script which is run on so many queues
abbrev pub IsRunCommand : ℕ → Command → Type 0
IsRunCommand queues (command.Step queue op) = (queue < queues) × (is_producer op ≡ true)
IsRunCommand queues (command.Each each) = is_producer (op_of each) ≡ true
IsRunCommand queues command.Drain = ⊤
IsRunCommand queues command.Report = ⊥
IsRunCommand queues (command.Up silo) = silo < MOST_SILOS
IsRunCommand queues (command.Down silo) = silo < MOST_SILOS

-- the numbers of the lines rise, from above this one on
abbrev pub RisesFrom : ℕ → List Line → Type 0
RisesFrom last [] = ⊤
RisesFrom last (line ∷ lines) = (last < line.number) × RisesFrom line.number lines

-- commands that may run on so many queues, with rising line numbers
pub record IsScript (queues : ℕ) (lines : List Line) : Type 0 where
  pub commands : AllByRecursion (λ (line : Line). IsRunCommand queues line.command) lines
  pub rises : RisesFrom 0 lines

-- what was read of a line, in front of what is read of those behind it
abbrev pub with_parsed : ℕ → Parsed → Result (List Line) Fault → Result (List Line) Fault
with_parsed number parsed.Skip rest = rest
with_parsed number (parsed.Fault fault) rest = Err fault
with_parsed number (parsed.Command command) (Ok lines) = Ok (record { number = number; command = command } ∷ lines)
with_parsed number (parsed.Command command) (Err fault) = Err fault

-- the commands of lines, the last before which has this number, or the first fault
abbrev pub lines_after : ℕ → ℕ → List (List ℕ) → Result (List Line) Fault
lines_after queues last [] = Ok []
lines_after queues last (line ∷ lines) = with_parsed (last + 1) (reading queues mode.Run (last + 1) line) (lines_after queues (last + 1) lines)

-- what lines read as: a script, or the first fault
abbrev pub IsRead : ℕ → List (List ℕ) → Script → Type 0
IsRead queues lines (script.Lines found) = (lines_after queues 0 lines ≡ Ok found.items) × IsScript queues found.items
IsRead queues lines (script.Fault fault) = lines_after queues 0 lines ≡ Err fault
