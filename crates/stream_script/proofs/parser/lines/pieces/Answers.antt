use Rattle.stream_script.proofs.Prelude.{List, ◌∙◌, ap, arith, map_push}
use Rattle.stream_script.specs.Lexer.{Between, cut, piece_of, pieces_in}
use Rattle.stream_script.specs.Pieces.{Piece}
use Rattle.stream_script.proofs.PieceLemmas.{with_front, line_stuck, line_more, line_done}
use Rattle.stream_script.proofs.parser.lines.pieces.Goals as goal

pub returns-in_default-2 : goal.returns-in_default-2
returns-in_default-2 c =
    line_stuck (pieces_in c.loop-rest.pieces.items) c.args.line.now c.loop-rest.rest.now c.loop-rest.invariant (rw c.in_default-2.is at c.in_ok-piece.ensures.exact)

pub loop-rest-preserved : goal.loop-rest-preserved
loop-rest-preserved c =
    let rest = c.loop-rest.rest.now in
    let after = c.in-Some.after.now in
    let items = ap pieces_in c.in_ok-push.ensures.items ∙ map_push piece_of c.loop-rest.pieces.items c.in-Some.piece in
    let cuts = rw c.in-Some.is at c.in_ok-piece.ensures.exact in
    ap (λ (front : List Piece). with_front front (cut Between after)) items
    ∙ line_more (pieces_in c.loop-rest.pieces.items) (piece_of c.in-Some.piece) c.args.line.now rest after c.loop-rest.invariant cuts

pub returns : goal.returns
returns c = line_done (pieces_in c.loop-rest.pieces.items) c.args.line.now c.loop-rest.rest.now c.loop-rest.invariant (omega arith)
