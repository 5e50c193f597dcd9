-- A line as a list of pieces between spaces: words, and texts in quotes.
use Rattle.std.specs.Prelude.{◌≡◌, ℕ, ◌<◌, Bool, true, ◌||◌, not, List, [], ◌∷◌, ◌++◌, length, ◌==◌, if◌then◌else◌}
use Rattle.std.specs.List.{list_all}

-- a word stands for its bytes; a text has the bytes that it stands for
pub data Piece : Type 0 where
  Word : List ℕ → Piece
  Text : List ℕ → Piece

abbrev pub is_space : ℕ → Bool
is_space byte = byte == 32

abbrev pub is_quote : ℕ → Bool
is_quote byte = byte == 34

abbrev pub is_backslash : ℕ → Bool
is_backslash byte = byte == 92

-- what ends a word, or stands wrong in it
abbrev pub ends_word : ℕ → Bool
ends_word byte = is_space byte || is_quote byte

-- what stands behind a backslash in a text
abbrev pub is_special : ℕ → Bool
is_special byte = is_quote byte || is_backslash byte

-- how a text is written between its quotes: a quote and a backslash behind a backslash
abbrev pub escaped : List ℕ → List ℕ
escaped [] = []
escaped (byte ∷ bytes) = if is_special byte then 92 ∷ byte ∷ escaped bytes else byte ∷ escaped bytes

-- how a piece (a word or a text) is written
abbrev pub spelling : Piece → List ℕ
spelling (Word bytes) = bytes
spelling (Text bytes) = 34 ∷ escaped bytes ++ 34 ∷ []

-- a word has one byte or more, none of them a space or a quote; a text is any bytes
abbrev pub IsPiece : Piece → Type 0
IsPiece (Word bytes) = (0 < length bytes) × (list_all (λ byte. not (ends_word byte)) bytes ≡ true)
IsPiece (Text bytes) = Unit {0}

abbrev pub AreSpaces : List ℕ → Type 0
AreSpaces bytes = list_all is_space bytes ≡ true

-- nothing, or a space and what follows it
abbrev pub ends_piece : List ℕ → Bool
ends_piece [] = true
ends_piece (byte ∷ bytes) = is_space byte

-- The line is these pieces in order, with spaces before, between and after them.
abbrev pub IsLineOf : List ℕ → List Piece → Type 0
IsLineOf line [] = AreSpaces line
IsLineOf line (piece ∷ pieces) =
    (spaces : List ℕ) × (rest : List ℕ) × (line ≡ spaces ++ spelling piece ++ rest) × AreSpaces spaces × IsPiece piece
    × (ends_piece rest ≡ true) × IsLineOf rest pieces
