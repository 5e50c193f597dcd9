use Rattle.pubsub_registry.proofs.indexed.Subscriptions.grain.Goals as goal

pub key_at-requires : goal.key_at-requires
key_at-requires c = (c.entry_at.ensures.within _ c.self.invariant.within).1.1
