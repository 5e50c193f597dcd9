use Rattle.pubsub_registry.proofs.Prelude.{◌≡◌, length, take}
use Rattle.pubsub_registry.specs.Implying.{names_with}
use Rattle.pubsub_registry.proofs.implying.push_all.Given as goal

abbrev pub invariant-loop-index : goal.invariant-loop-index
invariant-loop-index l =
    record {
      all : l.subscriptions ≡ names_with l.rules l.initial.subscriptions (take l.index l.events);
      front : take (length l.initial.subscriptions) l.subscriptions ≡ l.initial.subscriptions;
    }
