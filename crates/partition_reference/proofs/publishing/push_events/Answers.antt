use Rattle.partition_reference.proofs.Prelude.{◌∙◌, ◌∷◌, [], ◌++◌, ap}
use Rattle.stream_model.proofs.BatchEvents.{event_at, event-more}
use Rattle.partition_reference.proofs.publishing.push_events.Goals as goal

pub loop-idx-preserved : goal.loop-idx-preserved
loop-idx-preserved c =
    let payload = c.index-payloads-idx.result in
    let stream = c.args.stream.now in
    c.in_ok-push.ensures.items
    ∙ ap (λ log. log ++ event_at stream c.args.seq c.loop-idx.idx payload ∷ []) c.loop-idx.invariant
    ∙ event-more c.args.log.now.items stream c.args.seq c.args.payloads.now c.loop-idx.idx payload c.loop-idx-test.true c.index-payloads-idx.is
