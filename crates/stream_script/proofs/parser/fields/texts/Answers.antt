use Rattle.stream_script.specs.Lexer.{piece_of}
use Rattle.stream_script.specs.Forms.{text_of}
use Rattle.stream_script.proofs.ReadLemmas.{read_more, read_stuck, read_done}
use Rattle.stream_script.proofs.parser.fields.texts.Goals as goal

pub returns-in_err-text : goal.returns-in_err-text
returns-in_err-text c =
    read_stuck text_of piece_of _ _ c.args.pieces.now c.loop-piece.piece-index c.piece-item.result c.in_err-text.field-0.0 c.from_residual.result _ c.loop-piece-test.true c.piece-item.is c.in_err-text.ensures c.loop-piece.invariant
    c.from_residual.ensures.0 c.from_residual.ensures.1

pub loop-piece-preserved : goal.loop-piece-preserved
loop-piece-preserved c =
    read_more text_of piece_of (λ text. text.now) c.loop-piece.texts.items _ c.args.pieces.now c.loop-piece.piece-index c.piece-item.result _ _ c.in_ok-push.ensures.items c.loop-piece-test.true c.piece-item.is c.in_ok-text.ensures c.loop-piece.invariant

pub returns : goal.returns
returns c = read_done text_of piece_of _ c.args.pieces.now c.loop-piece.piece-index _ c.loop-piece-test.false c.loop-piece.invariant
