use Rattle.stream_script.proofs.Prelude.{◌∙◌, sym, refl, none-some}
use Rattle.stream_script.specs.Lexer.{pieces_of}
use Rattle.stream_script.proofs.LineLemmas.{none_found, pieces_of-line, line-pieces_of}
use Rattle.stream_script.proofs.parser.laws.pieces_are_found.Goals as goal

pub returns-clause-pieces : goal.returns-clause-pieces
returns-clause-pieces c line pieces = (line-pieces_of line pieces, pieces_of-line line pieces)

pub returns-clause-none : goal.returns-clause-none
returns-clause-none c line = (λ is pieces made. none-some pieces (sym is ∙ pieces_of-line line pieces made), none_found line (pieces_of line) refl)
