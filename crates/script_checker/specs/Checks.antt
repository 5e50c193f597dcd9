-- What a line is to a checker: what the parser reads it as, and the place of a fault.
use Rattle.std.specs.Prelude.{◌≡◌, ℕ, ◌+◌, ◌-◌, ◌≤◌, List, ◌∷◌, length, slice_range, ⊤}
use Rattle.stream_script.specs.declared.parser.command.Parsed.{Parsed}
use Rattle.stream_script.specs.declared.parser.command.Parsed.TheVariants as parsed
use Rattle.stream_script.specs.Pieces.{Piece, Word, IsLineOf}
use Rattle.script_checker.specs.declared.line.Checked.{Checked}
use Rattle.script_checker.specs.declared.line.Checked.TheVariants as checked
use Rattle.script_checker.specs.declared.line.LineFault.{LineFault}
use Rattle.script_checker.specs.Counts.{verb_in, word_of}
use Rattle.script_checker.specs.Places.{IsSpot}

-- what a checked line reads as, without the place of a fault
abbrev pub parsed_of : Checked → Parsed
parsed_of (checked.Command command) = parsed.Command command
parsed_of checked.Skip = parsed.Skip
parsed_of (checked.Fault fault) = parsed.Fault fault.fault

-- the places, counted from 0, of the faulty word's first byte, and behind its last one
abbrev pub start_of : LineFault → ℕ
start_of fault = fault.column - 1

abbrev pub end_of : LineFault → ℕ
end_of fault = start_of fault + length fault.word.now

-- The word is what stands in the line from the column on, which is counted from 1, and that is where a fault of its kind
-- is.
pub record IsPlacedFault (line : List ℕ) (fault : LineFault) : Type 0 where
  pub column : 1 ≤ fault.column
  pub within : end_of fault ≤ length line
  pub word : slice_range line (start_of fault) (end_of fault) ≡ fault.word.now
  pub spot : IsSpot fault.fault.kind line (start_of fault) (end_of fault)

-- the line is made of this word and other pieces behind it
abbrev pub BeginsWith : List ℕ → List ℕ → Type 0
BeginsWith line word = (pieces : List Piece) × IsLineOf line (Word word ∷ pieces)

-- a line that is a command begins with the command's word
abbrev pub HasVerb : List ℕ → Checked → Type 0
HasVerb line (checked.Command command) = BeginsWith line (word_of (verb_in command))
HasVerb line _ = ⊤

-- The word of a fault stands in the line at its column: at the first bad byte, a whole piece, or the end.
abbrev pub IsPlaced : List ℕ → Checked → Type 0
IsPlaced line (checked.Fault fault) = IsPlacedFault line fault
IsPlaced line _ = ⊤
