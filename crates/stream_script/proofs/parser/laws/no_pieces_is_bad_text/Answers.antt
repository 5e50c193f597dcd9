use Rattle.stream_script.proofs.Prelude.{refl}
use Rattle.stream_script.specs.Lexer.{pieces_of}
use Rattle.stream_script.specs.Reading.{reading}
use Rattle.stream_script.proofs.LineLemmas.{none_found}
use Rattle.stream_script.proofs.parser.laws.no_pieces_is_bad_text.Goals as goal

pub returns : goal.returns
unfolding reading
returns c queues number mode line stays printed none = rw (stays, printed, none_found line (pieces_of line) refl none) refl
