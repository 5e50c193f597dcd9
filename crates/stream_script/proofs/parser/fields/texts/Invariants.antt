use Rattle.stream_script.proofs.Prelude.{◌≡◌, map, drop}
use Rattle.stream_script.specs.Lexer.{piece_of}
use Rattle.stream_script.specs.Forms.{read_all, text_of}
use Rattle.stream_script.proofs.ReadLemmas.{with_read}
use Rattle.stream_script.proofs.parser.fields.texts.Given as goal

abbrev pub invariant-loop-piece : goal.invariant-loop-piece
invariant-loop-piece l = with_read (map (λ text. text.now) l.texts.items) (read_all text_of (map piece_of (drop l.piece-index l.pieces))) ≡ read_all text_of (map piece_of l.pieces)
