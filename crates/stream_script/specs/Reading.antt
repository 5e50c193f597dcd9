-- What a line is: the command that it reads as, or the first step of the table of faults that holds of it.
use Rattle.std.specs.Prelude.{◌≡◌, ℕ, ◌<◌, Bool, true, false, ◌||◌, List, [], ◌∷◌, Option, Some, None, Result, Ok, Err, ⊤, if◌then◌else◌}
use Rattle.std.specs.List.{list_all}
use Rattle.stream_ident.specs.Name.{◌>>=◌}
use Rattle.stream_ident.specs.Alphabet.{is_printable}
use Rattle.stream_script.specs.declared.parser.command.Command.{Command}
use Rattle.stream_script.specs.declared.parser.command.Command.TheVariants.{Step}
use Rattle.stream_script.specs.declared.parser.command.LineError.{LineError}
use Rattle.stream_script.specs.declared.parser.command.LineError.TheVariants as errors
use Rattle.stream_script.specs.declared.parser.command.Fault.{Fault}
use Rattle.stream_script.specs.declared.parser.command.FaultKind.{FaultKind}
use Rattle.stream_script.specs.declared.parser.command.FaultKind.TheVariants as kind
use Rattle.stream_script.specs.declared.parser.command.Mode.{Mode}
use Rattle.stream_script.specs.declared.parser.command.Parsed.{Parsed}
use Rattle.stream_script.specs.declared.parser.command.Parsed.TheVariants as parsed
use Rattle.stream_script.specs.Fields.{guard}
use Rattle.stream_script.specs.Forms.{verb_command}
use Rattle.stream_script.specs.Pieces.{Piece, is_space}
use Rattle.stream_script.specs.Lexer.{pieces_of, begins_with}
use Rattle.stream_script.specs.Verbs.{verb_in_front, may_stand, not_here}

abbrev pub command_of : Mode → ℕ → List Piece → Result Command FaultKind
command_of mode queues [] = Err kind.BadCommand
command_of mode queues (piece ∷ pieces) = do
  verb ← verb_in_front piece
  standing ← guard (not_here mode) (may_stand mode verb) verb
  verb_command standing queues pieces

abbrev pub lexed : Mode → ℕ → Option (List Piece) → Result Command FaultKind
lexed mode queues None = Err kind.BadText
lexed mode queues (Some pieces) = command_of mode queues pieces

abbrev pub line_command : Mode → ℕ → List ℕ → Result Command FaultKind
line_command mode queues line = if list_all is_printable line then lexed mode queues (pieces_of line) else Err kind.BadByte

-- empty, or spaces only, or a comment
abbrev pub is_skipped : List ℕ → Bool
is_skipped line = list_all is_space line || begins_with 35 line

abbrev pub parsed_of : ℕ → Result Command FaultKind → Parsed
parsed_of line (Ok command) = parsed.Command command
parsed_of line (Err fault) = parsed.Fault (record { line = line; kind = fault })

-- a line is skipped, a command, or its first fault, given the number of queues, what the script is for, and
-- the line's number
unfoldable pub reading : ℕ → Mode → ℕ → List ℕ → Parsed
reading queues mode line bytes = if is_skipped bytes then parsed.Skip else parsed_of line (line_command mode queues bytes)

-- What a function returned, seen by view, is what reading gives, unless memory ran out.
abbrev pub Fails : {Y : Type 0} → LineError → Result Y FaultKind → Type 0
Fails errors.Memory read = Unit {0}
Fails (errors.Fault fault) read = read ≡ Err fault

abbrev pub Gives : {X Y : Type 0} → (X → Y) → Result X LineError → Result Y FaultKind → Type 0
Gives view (Ok x) read = read ≡ Ok (view x)
Gives view (Err e) read = Fails e read

-- a command was put in its place as it is read, or its fault was told
abbrev pub Makes : {Y : Type 0} → Y → Result Unit FaultKind → Result Y FaultKind → Type 0
Makes made (Ok done) read = read ≡ Ok made
Makes made (Err fault) read = read ≡ Err fault

-- what a line is: whether it is a command, which was put in its place, or its fault
abbrev pub parsed_as : Result Bool Fault → Command → Parsed
parsed_as (Ok true) command = parsed.Command command
parsed_as (Ok false) command = parsed.Skip
parsed_as (Err fault) command = parsed.Fault fault

-- the command's queue exists
abbrev pub IsWithin : ℕ → Parsed → Type 0
IsWithin queues (parsed.Command (Step queue o)) = queue < queues
IsWithin queues _ = ⊤
