use Rattle.stream_script.proofs.Prelude.{◌≡◌, map, drop}
use Rattle.stream_script.specs.Lexer.{piece_of}
use Rattle.stream_script.specs.Forms.{read_all, word_of}
use Rattle.stream_script.proofs.ReadLemmas.{with_read}
use Rattle.stream_script.proofs.parser.fields.words.Given as goal

abbrev pub invariant-loop-piece : goal.invariant-loop-piece
invariant-loop-piece l = with_read (map (λ word. word.now) l.words.items) (read_all word_of (map piece_of (drop l.piece-index l.pieces))) ≡ read_all word_of (map piece_of l.pieces)
