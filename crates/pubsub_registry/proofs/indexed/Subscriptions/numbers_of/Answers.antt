use Rattle.pubsub_registry.proofs.Prelude.{sym}
use Rattle.pubsub_registry.proofs.IndexLemmas.{indexed-row}
use Rattle.pubsub_registry.proofs.indexed.Subscriptions.numbers_of.Goals as goal

pub returns : goal.returns
returns c = indexed-row _ _ _ c.args.stream.now c.row.result.now c.self.invariant.indexed (sym c.self.view_is) c.row.ensures
