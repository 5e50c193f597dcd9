use Rattle.pubsub_registry.proofs.indexed.Subscriptions.name.Goals as goal

pub name_by-requires : goal.name_by-requires
name_by-requires c = (c.entry_at.ensures.within _ c.self.invariant.within).0
