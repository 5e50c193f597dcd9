use Rattle.pubsub_registry.proofs.Prelude.{◌≡◌, ◌&&◌, false, take, list_any, same_stream, Event}
use Rattle.pubsub_registry.specs.Implying.{makes_any}
use Rattle.pubsub_registry.proofs.implying.makes_of_any.Given as goal

abbrev pub invariant-loop-index : goal.invariant-loop-index
invariant-loop-index l = list_any (λ (event : Event). same_stream l.stream event.stream && makes_any l.kind event l.rules) (take l.index l.events) ≡ false
