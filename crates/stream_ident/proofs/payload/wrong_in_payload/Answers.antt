use Rattle.stream_ident.proofs.Prelude.{◌∙◌, sym, arith, length-take}
use Rattle.stream_ident.specs.Alphabet.{is_printable}
use Rattle.stream_ident.specs.declared.limits.TheConstants.{PAYLOAD_BYTES}
use Rattle.stream_ident.proofs.NameLemmas.{wrong_place-short}
use Rattle.stream_ident.proofs.payload.wrong_in_payload.Goals as goal

pub returns-then-bytes-le-PAYLOAD_BYTES : goal.returns-then-bytes-le-PAYLOAD_BYTES
returns-then-bytes-le-PAYLOAD_BYTES c =
    c.unprintable.ensures.exact ∙ sym (wrong_place-short is_printable PAYLOAD_BYTES c.args.bytes.now c.if-bytes-le-PAYLOAD_BYTES.true)

pub slice_bounds-unprintable-end : goal.slice_bounds-unprintable-end
slice_bounds-unprintable-end c = omega (arith, length-take PAYLOAD_BYTES c.args.bytes.now)
