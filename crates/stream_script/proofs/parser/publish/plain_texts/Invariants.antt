use Rattle.stream_script.proofs.Prelude.{◌≡◌, map, length, AllByRecursion, IsPayload}
use Rattle.stream_script.specs.Lexer.{Between, cut}
use Rattle.stream_script.specs.Pieces.{Text}
use Rattle.stream_script.proofs.PieceLemmas.{with_front}
use Rattle.stream_script.proofs.parser.publish.plain_texts.Given as goal

-- the texts so far and the pieces of the rest are those of the line
abbrev pub invariant-loop-rest : goal.invariant-loop-rest
invariant-loop-rest l =
    record {
      pieces : with_front (map Text (map (λ text. text.now) l.texts.items)) (cut Between l.rest) ≡ cut Between l.fn.bytes;
      payloads : AllByRecursion IsPayload (map (λ text. text.now) l.texts.items);
    }

abbrev pub decreases-loop-rest : goal.decreases-loop-rest
decreases-loop-rest l = length l.rest
