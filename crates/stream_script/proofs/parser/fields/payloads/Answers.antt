use Rattle.stream_script.specs.Fields.{payload_field}
use Rattle.stream_script.proofs.ReadLemmas.{read_done}
use Rattle.stream_script.proofs.parser.fields.payloads.Goals as goal

pub returns : goal.returns
returns c = read_done payload_field (λ text. text.now) _ c.args.texts.now c.loop-text.text-index _ c.loop-text-test.false c.loop-text.invariant
