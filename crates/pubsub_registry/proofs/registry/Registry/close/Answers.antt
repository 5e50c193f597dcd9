use Rattle.pubsub_registry.proofs.SoundLemmas.{sound-closed}
use Rattle.pubsub_registry.proofs.registry.Registry.close.Goals as goal

pub invariant_of-self : goal.invariant_of-self
invariant_of-self c = sound-closed _ c.self.invariant c.close.new.self c.args.sub.now c.close.ensures
