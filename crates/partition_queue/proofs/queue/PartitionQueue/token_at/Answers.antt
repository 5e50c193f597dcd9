use Rattle.partition_queue.proofs.Prelude.{◌≡◌, ◌∙◌, ◌<◌, ap, length, get_or, rules, batch_token}
use Rattle.partition_queue.specs.Log.{token_of}
use Rattle.partition_queue.specs.Queue.{token_at}
use Rattle.partition_queue.proofs.LogLemmas.{token_in}
use Rattle.partition_queue.proofs.queue.PartitionQueue.token_at.Goals as goal

pub returns-in-Some : goal.returns-in-Some
returns-in-Some c =
    let inside = c.self.inside in
    let entry = c.in-Some.entry.now in
    let within : c.args.position < length inside.entries.items = search rules in
    let found : entry ≡ get_or inside.entries.items c.args.position entry = search rules in
    c.token.ensures ∙ (ap token_of found ∙ (token_in inside.streams inside.bytes.items inside.entries.items c.args.position entry (batch_token inside.batches) within ∙ ap (λ q. token_at q c.args.position) c.self.view_is))
