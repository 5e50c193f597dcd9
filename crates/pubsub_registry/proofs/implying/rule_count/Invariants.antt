use Rattle.pubsub_registry.proofs.Prelude.{◌≡◌, take}
use Rattle.pubsub_registry.specs.Implying.{rule_count}
use Rattle.pubsub_registry.proofs.implying.rule_count.Given as goal

abbrev pub invariant-loop-index : goal.invariant-loop-index
invariant-loop-index l = l.count ≡ rule_count l.rules (take l.index l.events)
