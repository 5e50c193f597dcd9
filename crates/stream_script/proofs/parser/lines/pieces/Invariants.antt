use Rattle.stream_script.proofs.Prelude.{◌≡◌, length}
use Rattle.stream_script.specs.Lexer.{Between, cut, pieces_in}
use Rattle.stream_script.proofs.PieceLemmas.{with_front}
use Rattle.stream_script.proofs.parser.lines.pieces.Given as goal

-- the pieces so far and those of the rest are those of the line
abbrev pub invariant-loop-rest : goal.invariant-loop-rest
invariant-loop-rest l = with_front (pieces_in l.pieces.items) (cut Between l.rest) ≡ cut Between l.line

abbrev pub decreases-loop-rest : goal.decreases-loop-rest
decreases-loop-rest l = length l.rest
