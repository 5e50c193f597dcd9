use Rattle.stream_script.specs.Lexer.{piece_of}
use Rattle.stream_script.specs.Forms.{word_of}
use Rattle.stream_script.proofs.ReadLemmas.{read_more, read_stuck, read_done}
use Rattle.stream_script.proofs.parser.fields.words.Goals as goal

pub returns-in_err-word : goal.returns-in_err-word
returns-in_err-word c =
    read_stuck word_of piece_of _ _ c.args.pieces.now c.loop-piece.piece-index c.piece-item.result c.in_err-word.field-0.0 c.from_residual-in_err-word.result _ c.loop-piece-test.true c.piece-item.is c.in_err-word.ensures c.loop-piece.invariant
    c.from_residual-in_err-word.ensures.0 c.from_residual-in_err-word.ensures.1

pub loop-piece-preserved : goal.loop-piece-preserved
loop-piece-preserved c =
    read_more word_of piece_of (λ word. word.now) c.loop-piece.words.items _ c.args.pieces.now c.loop-piece.piece-index c.piece-item.result _ _ c.in_ok-push.ensures.items c.loop-piece-test.true c.piece-item.is c.in_ok-word.ensures c.loop-piece.invariant

pub returns : goal.returns
returns c = read_done word_of piece_of _ c.args.pieces.now c.loop-piece.piece-index _ c.loop-piece-test.false c.loop-piece.invariant
