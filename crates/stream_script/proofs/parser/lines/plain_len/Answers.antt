use Rattle.stream_script.proofs.Prelude.{◌∙◌, ap, length, unwrap_or}
use Rattle.stream_script.specs.Pieces.{is_special}
use Rattle.stream_script.proofs.PieceLemmas.{unwrap_or-position}
use Rattle.stream_script.proofs.parser.lines.plain_len.Goals as goal

pub returns-clause-exact : goal.returns-clause-exact
returns-clause-exact c =
    let bytes = c.args.bytes.now in
    c.unwrap_or.ensures ∙ (ap (λ o. unwrap_or o (length bytes)) c.plain_end.ensures.exact ∙ unwrap_or-position is_special bytes)
