-- Places in a line, counted from 0, and where its fault is.
use Rattle.std.specs.Prelude.{◌≡◌, ◌≢◌, ℕ, ◌+◌, ◌-◌, ◌<◌, ◌≤◌, ◌⊎◌, not, List, length, min, slice_index}
use Rattle.std.specs.List.{position_or_len}
use Rattle.stream_ident.specs.Alphabet.{is_printable}
use Rattle.stream_script.specs.declared.parser.command.FaultKind.{FaultKind}
use Rattle.stream_script.specs.declared.parser.command.FaultKind.TheVariants.{BadByte, NotInRun, NotInSim, WordCount}
use Rattle.script_checker.specs.declared.finding.Finding.{Finding}
use Rattle.script_checker.specs.declared.piece.Piece.{Piece}

-- from one place of the line to another
abbrev pub IsSpan : List ℕ → ℕ → ℕ → Type 0
IsSpan line start end = (start ≤ end) × (end ≤ length line)

-- no piece goes on here: the line ends, or a space stands here
abbrev pub EndsAt : List ℕ → ℕ → Type 0
EndsAt line place = place < length line → slice_index line place ≡ 32

-- no piece goes on from the byte before: the line begins here, or that byte is a space
abbrev pub BeginsAt : List ℕ → ℕ → Type 0
BeginsAt line place = 0 < place → slice_index line (place - 1) ≡ 32

-- a piece of the line, and all of it: bytes of which the first isn't a space, with no other piece right in front of them
-- or behind them
pub record IsWhole (line : List ℕ) (start end : ℕ) : Type 0 where
  pub some : start < end
  pub within : end ≤ length line
  pub first : slice_index line start ≢ 32
  pub begins : BeginsAt line start
  pub ends : EndsAt line end

-- where a piece is missing at the end of the line
abbrev pub IsMissing : List ℕ → ℕ → ℕ → Type 0
IsMissing line start end = (start ≡ length line) × (end ≡ length line)

-- the first byte that may not stand in a line
abbrev pub IsBadByte : List ℕ → ℕ → ℕ → Type 0
IsBadByte line start end =
    (start ≡ position_or_len (λ byte. not (is_printable byte)) line) × (end ≡ min (start + 1) (length line))

-- only spaces stand from one place of the line up to another
abbrev pub AreSpaces : List ℕ → ℕ → ℕ → Type 0
AreSpaces line from to = (k : ℕ) → from ≤ k → k < to → slice_index line k ≡ 32

-- Where a fault of this kind is: at a byte, at a whole piece, or, where the number of pieces is wrong, at the end of the
-- line. A command that may not stand in such a script is the first piece.
pub record IsSpot (kind : FaultKind) (line : List ℕ) (start end : ℕ) : Type 0 where
  pub byte : kind ≡ BadByte → IsBadByte line start end
  pub count : kind ≡ WordCount → IsWhole line start end ⊎ IsMissing line start end
  pub whole : kind ≢ BadByte → kind ≢ WordCount → IsWhole line start end
  pub front : (kind ≡ NotInSim) ⊎ (kind ≡ NotInRun) → AreSpaces line 0 start

-- the first whole piece from this place on
abbrev pub IsNextFrom : List ℕ → ℕ → Piece → Type 0
IsNextFrom line from piece = (from ≤ piece.start) × AreSpaces line from piece.start × IsWhole line piece.start piece.end

-- the fault is that of the piece
abbrev pub IsOfPiece : Piece → Finding → Type 0
IsOfPiece piece finding = (finding.start ≡ piece.start) × (finding.end ≡ piece.end)
