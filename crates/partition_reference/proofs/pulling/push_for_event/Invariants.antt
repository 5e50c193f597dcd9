use Rattle.partition_reference.proofs.Prelude.{◌≡◌, fold, length, take, flat_map, added, implied}
use Rattle.partition_reference.proofs.pulling.push_for_event.Given as goal

abbrev pub invariant-loop-rule : goal.invariant-loop-rule
invariant-loop-rule l =
    record {
      all : l.subs.items ≡ fold added l.initial.subs.items (flat_map (implied l.position l.event) (take l.rule-index l.rules));
      front : take (length l.initial.subs.items) l.subs.items ≡ l.initial.subs.items;
    }
