use Rattle.script_checker.proofs.PlaceLemmas.{next_at}
use Rattle.script_checker.proofs.piece.piece_from.Goals as goal

pub returns : goal.returns
returns c =
    let start = c.piece_start-start.ensures in
    let piece = c.piece_at.ensures in
    next_at c.args.bytes.now c.args.from c.piece_start-start.result c.piece_at.result c.requires.edge start.behind start.spaces start.first piece.start piece.some piece.within piece.ends
