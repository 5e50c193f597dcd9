use Rattle.pubsub_registry.proofs.Prelude.{◌≡◌, fold, length, take, flat_map, added}
use Rattle.pubsub_registry.specs.Implying.{made}
use Rattle.pubsub_registry.proofs.implying.push_for_event.Given as goal

abbrev pub invariant-loop-rule : goal.invariant-loop-rule
invariant-loop-rule l =
    record {
      all : l.subscriptions ≡ fold added l.initial.subscriptions (flat_map (made l.event) (take l.rule-index l.rules));
      front : take (length l.initial.subscriptions) l.subscriptions ≡ l.initial.subscriptions;
    }
