use Rattle.stream_script.proofs.Prelude.{◌≡◌, map, drop}
use Rattle.stream_script.specs.Fields.{payload_field}
use Rattle.stream_script.specs.Forms.{read_all}
use Rattle.stream_script.proofs.ReadLemmas.{with_read}
use Rattle.stream_script.proofs.parser.fields.payloads.Given as goal

abbrev pub invariant-loop-text : goal.invariant-loop-text
invariant-loop-text l = with_read l.payloads.items (read_all payload_field (map (λ text. text.now) (drop l.text-index l.texts))) ≡ read_all payload_field (map (λ text. text.now) l.texts)
