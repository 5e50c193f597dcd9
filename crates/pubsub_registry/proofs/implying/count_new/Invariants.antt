use Rattle.pubsub_registry.proofs.Prelude.{◌≡◌, ◌≤◌, ◌+◌, ◌*◌, length, take}
use Rattle.stream_ident.specs.declared.limits.TheConstants.{MOST_RULES}
use Rattle.pubsub_registry.specs.Implying.{names_with}
use Rattle.pubsub_registry.proofs.implying.count_new.Given as goal

abbrev pub invariant-loop-index : goal.invariant-loop-index
invariant-loop-index l =
    record {
      count : length (names_with l.rules l.subscriptions (take l.index l.events)) ≡ length l.subscriptions + l.count;
      bound : l.count ≤ MOST_RULES * l.index;
    }
