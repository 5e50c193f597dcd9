-- A script cut into lines.
use Rattle.std.specs.Prelude.{ℕ, ◌-◌, List, [], ◌∷◌, length, map, take, slice_index, ◌==◌, if◌then◌else◌}

abbrev pub with_first : ℕ → List (List ℕ) → List (List ℕ)
with_first byte [] = (byte ∷ []) ∷ []
with_first byte (line ∷ lines) = (byte ∷ line) ∷ lines

-- The bytes between line feeds. A last line without one counts, and nothing after a last line feed is no
-- line.
abbrev pub cut_at_feeds : List ℕ → List (List ℕ)
cut_at_feeds [] = []
cut_at_feeds (byte ∷ bytes) = if byte == 10 then [] ∷ cut_at_feeds bytes else with_first byte (cut_at_feeds bytes)

-- one carriage return at the end taken off
abbrev pub without_return : List ℕ → List ℕ
without_return line = if slice_index line (length line - 1) == 13 then take (length line - 1) line else line

-- a script cut at line feeds, each line without one carriage return at its end
abbrev pub lines_of : List ℕ → List (List ℕ)
lines_of script = map without_return (cut_at_feeds script)
