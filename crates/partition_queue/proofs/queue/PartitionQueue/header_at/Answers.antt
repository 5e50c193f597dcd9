use Rattle.partition_queue.proofs.Prelude.{◌<◌, ◌∙◌, ap, sym, length, arith, get_or-map, length-map, no_event}
use Rattle.queue_mapper.specs.Place.{bare}
use Rattle.partition_queue.specs.Log.{event_of}
use Rattle.partition_queue.proofs.queue.PartitionQueue.header_at.Goals as goal

pub returns : goal.returns
returns c =
    let log = c.self.inside in
    let entries = log.entries.items in
    let entry = c.index.result.now in
    let event = event_of log.streams log.bytes.items in
    let within : c.args.position < length entries = omega (arith, rw (← c.self.view_is) at c.requires, length-map entries event) in
    rw (← c.self.view_is)
    (c.header_of.ensures log.bytes.items
    ∙ ap (λ e. bare (event e)) c.index.ensures
    ∙ ap bare (sym (get_or-map event entries c.args.position entry no_event within)))
