use Rattle.pubsub_registry.proofs.Prelude.{◌≡◌, ◌≤◌, ◌+◌, fold, length, take, flat_map, added}
use Rattle.pubsub_registry.specs.Implying.{made, names_with}
use Rattle.pubsub_registry.proofs.implying.count_for_event.Given as goal

abbrev pub invariant-loop-index : goal.invariant-loop-index
invariant-loop-index l =
    record {
      count : length (fold added (names_with l.fn.rules l.subscriptions l.earlier) (flat_map (made l.event) (take l.index l.rules))) ≡ length (names_with l.fn.rules l.subscriptions l.earlier) + l.count;
      bound : l.count ≤ l.index;
    }
