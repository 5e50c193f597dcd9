use Rattle.partition_reference.proofs.Prelude.{◌≡◌, ◌∙◌, ◌++◌, length, false, ap, sym, arith, lt-ltb, events_of, on-error, is_bad, publish-bad, publish-full, publish-made, publish-takes_memory}
use Rattle.partition_reference.proofs.publishing.publish.Goals as goal

pub returns-then-is_bad_batch-clause-performs : goal.returns-then-is_bad_batch-clause-performs
returns-then-is_bad_batch-clause-performs c =
    sym (publish-bad c.args.p.now c.args.stream c.args.payloads.now (ap is_bad (sym c.as_slice-payloads.ensures) ∙ sym c.is_bad_batch.ensures ∙ c.if-is_bad_batch.true))

pub returns-then-as_slice-payloads-clause-performs : goal.returns-then-as_slice-payloads-clause-performs
returns-then-as_slice-payloads-clause-performs c =
    let good : is_bad c.args.payloads.now ≡ false =
    ap is_bad (sym c.as_slice-payloads.ensures) ∙ sym c.is_bad_batch.ensures ∙ c.if-is_bad_batch.false
    in
    let size = ap length c.as_slice-payloads.ensures in
    let held = ap length c.as_slice.ensures in
    sym (publish-full c.args.p.now c.args.stream c.args.payloads.now good (lt-ltb _ _ (omega arith)))

pub returns-in_err-append_events-clause-memory : goal.returns-in_err-append_events-clause-memory
returns-in_err-append_events-clause-memory c =
    let good : is_bad c.args.payloads.now ≡ false =
    ap is_bad (sym c.as_slice-payloads.ensures) ∙ sym c.is_bad_batch.ensures ∙ c.if-is_bad_batch.false
    in
    let size = ap length c.as_slice-payloads.ensures in
    let held = ap length c.as_slice.ensures in
    on-error c.from_residual.result (publish-takes_memory c.args.p.now c.args.stream c.args.payloads.now good (omega arith))

pub returns-clause-performs : goal.returns-clause-performs
returns-clause-performs c =
    let good : is_bad c.args.payloads.now ≡ false =
    ap is_bad (sym c.as_slice-payloads.ensures) ∙ sym c.is_bad_batch.ensures ∙ c.if-is_bad_batch.false
    in
    let size = ap length c.as_slice-payloads.ensures in
    let held = ap length c.as_slice.ensures in
    let p = c.args.p.now in
    let events = c.in_ok-append_events.ensures ∙ ap (λ payloads. p.log ++ events_of c.args.stream p.batches 0 payloads) c.as_slice-payloads.ensures in
    publish-made p c.args.stream c.args.payloads.now c.append_events.new.log good (omega arith) events
