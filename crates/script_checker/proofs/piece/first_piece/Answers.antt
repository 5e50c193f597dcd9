use Rattle.script_checker.proofs.PlaceLemmas.{no_spaces}
use Rattle.script_checker.proofs.piece.first_piece.Goals as goal

pub unreachable-requires : goal.unreachable-requires
unreachable-requires c = no_spaces c.args.bytes.now c.requires c.in_default.ensures
