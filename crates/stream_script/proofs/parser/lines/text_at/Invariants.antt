use Rattle.stream_script.proofs.Prelude.{[], ◌≡◌, ◌≤◌, length}
use Rattle.stream_script.specs.Lexer.{InText, cut}
use Rattle.stream_script.proofs.parser.lines.text_at.Given as goal

-- the rest is cut as the whole is
abbrev pub invariant-loop-text : goal.invariant-loop-text
invariant-loop-text l = (cut (InText l.text.items) l.rest ≡ cut (InText []) l.bytes) × (length l.rest ≤ length l.bytes)

abbrev pub decreases-loop-text : goal.decreases-loop-text
decreases-loop-text l = length l.rest
