use Rattle.pubsub_registry.proofs.SoundLemmas.{sound-take}
use Rattle.pubsub_registry.proofs.registry.Registry.truncate.Goals as goal

pub invariant_of-self : goal.invariant_of-self
invariant_of-self c = sound-take _ c.self.invariant c.truncate.new.self c.args.len c.truncate.ensures
