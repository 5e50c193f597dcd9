use Rattle.stream_script.proofs.Prelude.{true, ◌≡◌, ◌-◌, take, drop, length, rules, take_rest}
use Rattle.stream_script.specs.Lexer.{begins_with}
use Rattle.stream_script.specs.Pieces.{ends_piece}
use Rattle.stream_script.proofs.PieceLemmas.{plain_text_found}
use Rattle.stream_script.proofs.parser.lines.plain_text_at.Goals as goal

pub returns-clause-exact : goal.returns-clause-exact
returns-clause-exact c =
    let special = c.split_at.result.1.now in
    let rest = take (length special - 1) (drop 1 special) in
    let quoted : begins_with 34 special ≡ true = search rules in
    let ends : ends_piece rest ≡ true = search rules in
    plain_text_found c.args.bytes.now _ special rest c.plain_len.result c.plain_len.ensures.exact c.split_at.ensures.front c.split_at.ensures.back quoted (take_rest special 1) ends
