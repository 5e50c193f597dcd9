-- A line cut into its pieces, byte by byte. It gives just the pieces of which the line is made: the clauses
-- `found` and `only` of `parse_line`, which speak of those, stand on that.
use Rattle.std.specs.Prelude.{◌≡◌, ℕ, Bool, false, ◌&&◌, not, ◌==◌, List, [], ◌∷◌, ◌++◌, map, Option, Some, None, if◌then◌else◌}
use Rattle.std.specs.Option.{option_map}
use Rattle.stream_script.specs.declared.parser.lines.Piece.{Piece as CodePiece}
use Rattle.stream_script.specs.declared.parser.lines.Piece.TheVariants as code
use Rattle.stream_script.specs.Pieces.{Piece, Word, Text, is_space, is_quote, is_backslash, ends_word, is_special}

-- Where the cutting stands: between pieces, in a word, in a text, behind a backslash in a text, or right
-- behind a text; with the bytes of the piece so far.
pub data Place : Type 0 where
  Between : Place
  InWord : List ℕ → Place
  InText : List ℕ → Place
  InEscape : List ℕ → Place
  Closed : List ℕ → Place

-- one byte: where it leads, and the pieces that end there; nothing where it is wrong
abbrev pub cut_byte : Place → ℕ → Option (Place × List Piece)
cut_byte Between byte =
    if is_space byte then Some (Between, []) else if is_quote byte then Some (InText [], []) else Some (InWord (byte ∷ []), [])
cut_byte (InWord bytes) byte =
    if is_space byte then Some (Between, Word bytes ∷ []) else if is_quote byte then None else Some (InWord (bytes ++ byte ∷ []), [])
cut_byte (InText bytes) byte =
    if is_quote byte then Some (Closed bytes, []) else if is_backslash byte then Some (InEscape bytes, []) else Some (InText (bytes ++ byte ∷ []), [])
cut_byte (InEscape bytes) byte = if is_special byte then Some (InText (bytes ++ byte ∷ []), []) else None
cut_byte (Closed bytes) byte = if is_space byte then Some (Between, Text bytes ∷ []) else None

-- the line's end
abbrev pub cut_end : Place → Option (List Piece)
cut_end Between = Some []
cut_end (InWord bytes) = Some (Word bytes ∷ [])
cut_end (InText bytes) = None
cut_end (InEscape bytes) = None
cut_end (Closed bytes) = Some (Text bytes ∷ [])

abbrev pub cut_on : (Place → Option (List Piece)) → Option (Place × List Piece) → Option (List Piece)
cut_on go None = None
cut_on go (Some (place, ended)) = option_map (λ pieces. ended ++ pieces) (go place)

abbrev pub cut : Place → List ℕ → Option (List Piece)
cut place [] = cut_end place
cut place (byte ∷ bytes) = cut_on (λ next. cut next bytes) (cut_byte place byte)

-- the pieces of a line, or nothing where a text doesn't end, has a wrong escape or something right behind
-- it, or a quote stands inside a word
unfoldable pub pieces_of : List ℕ → Option (List Piece)
pieces_of line = cut Between line

-- a piece as the program keeps it, without where it lies in memory
abbrev pub piece_of : CodePiece → Piece
piece_of (code.Word bytes) = Word bytes.now
piece_of (code.Text bytes) = Text bytes.items

abbrev pub pieces_in : List CodePiece → List Piece
pieces_in pieces = map piece_of pieces

-- this byte stands in front
abbrev pub begins_with : ℕ → List ℕ → Bool
begins_with byte [] = false
begins_with byte (first ∷ bytes) = first == byte

-- the byte that an escape in front stands for, and what follows it
abbrev pub escape_at : List ℕ → Option (ℕ × List ℕ)
escape_at (first ∷ byte ∷ bytes) = if is_backslash first && is_special byte then Some (byte, bytes) else None
escape_at _ = None

-- a piece begins here
abbrev pub starts_piece : List ℕ → Bool
starts_piece [] = false
starts_piece (byte ∷ bytes) = not (is_space byte)

-- a word begins here
abbrev pub begins_word : List ℕ → Bool
begins_word [] = false
begins_word (byte ∷ bytes) = not (ends_word byte)

-- The cutting goes on from this place with this piece, and then from between pieces over the rest; or it
-- fails.
abbrev pub CutsOne : Place → List ℕ → Option (Piece × List ℕ) → Type 0
CutsOne place bytes None = cut place bytes ≡ None
CutsOne place bytes (Some found) = cut place bytes ≡ option_map (λ pieces. found.0 ∷ pieces) (cut Between found.1)
