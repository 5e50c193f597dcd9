use Rattle.stream_script.proofs.Prelude.{◌∙◌, sym, arith}
use Rattle.stream_script.proofs.PieceLemmas.{word_quoted, word_found, word_some}
use Rattle.stream_script.proofs.parser.lines.word_at.Goals as goal

pub returns-then-begins_with-clause-exact : goal.returns-then-begins_with-clause-exact
returns-then-begins_with-clause-exact c =
    word_quoted c.args.bytes.now c.split_at.result.1.now c.word_len.result c.word_len.ensures.exact c.split_at.ensures.back (sym c.begins_with.ensures ∙ c.if-begins_with.true)

pub returns-clause-exact : goal.returns-clause-exact
returns-clause-exact c =
    word_found c.args.bytes.now _ c.split_at.result.1.now c.word_len.result c.word_len.ensures.exact c.split_at.ensures.front c.split_at.ensures.back (sym c.begins_with.ensures ∙ c.if-begins_with.false)

pub returns-clause-shorter : goal.returns-clause-shorter
returns-clause-shorter c = omega (arith, word_some c.args.bytes.now c.requires)
