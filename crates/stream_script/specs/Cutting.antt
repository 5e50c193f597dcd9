-- What ties the pieces of which a line is made to the cutting of it byte by byte.
use Rattle.std.specs.Prelude.{◌≡◌, ◌↔◌, ℕ, true, false, List, Some, None}
use Rattle.std.specs.List.{list_all}
use Rattle.stream_ident.specs.Alphabet.{is_printable}
use Rattle.stream_script.specs.declared.parser.command.FaultKind.TheVariants as kind
use Rattle.stream_script.specs.declared.parser.command.Mode.{Mode}
use Rattle.stream_script.specs.declared.parser.command.Parsed.TheVariants as parsed
use Rattle.stream_script.specs.Lexer.{pieces_of}
use Rattle.stream_script.specs.Pieces.{Piece, IsLineOf}
use Rattle.stream_script.specs.Reading.{is_skipped, reading}

-- The cutting of a line gives just the words and texts of which it is made.
abbrev pub FindsPieces : Type 0
FindsPieces = (line : List ℕ) (pieces : List Piece) → (pieces_of line ≡ Some pieces) ↔ IsLineOf line pieces

-- there are no pieces of which the line is made
abbrev pub HasNoPieces : List ℕ → Type 0
HasNoPieces line = (pieces : List Piece) → IsLineOf line pieces → ⊥

-- The cutting of a line gives nothing just where it isn't made of any.
abbrev pub FindsNone : Type 0
FindsNone = (line : List ℕ) → (pieces_of line ≡ None) ↔ HasNoPieces line

-- A printable line that isn't skipped, and that can't be cut into pieces, is a bad text.
abbrev pub NoPiecesIsBadText : Type 0
NoPiecesIsBadText =
    (queues number : ℕ) (mode : Mode) (line : List ℕ) → is_skipped line ≡ false → list_all is_printable line ≡ true → HasNoPieces line
    → reading queues mode number line ≡ parsed.Fault (record { line = number; kind = kind.BadText })
