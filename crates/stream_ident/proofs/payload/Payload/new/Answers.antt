use Rattle.stream_ident.proofs.Prelude.{sym}
use Rattle.stream_ident.specs.declared.limits.TheConstants.{PAYLOAD_BYTES}
use Rattle.stream_ident.proofs.NameLemmas.{IsPayload-from_right, IsPadded-from_row}
use Rattle.stream_ident.proofs.payload.Payload.new.Goals as goal

pub invariant_of-result : goal.invariant_of-result
invariant_of-result c =
    let payload = IsPayload-from_right c.args.bytes.now (sym c.in_default.ensures) in
    let row = IsPadded-from_row PAYLOAD_BYTES c.args.bytes.now c.padded.result payload.short c.padded.ensures in
    (row.0, rw row.1 payload)
