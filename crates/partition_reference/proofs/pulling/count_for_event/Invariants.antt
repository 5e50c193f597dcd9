use Rattle.partition_reference.proofs.Prelude.{◌≡◌, ◌≤◌, ◌+◌, ℕ, fold, length, take, flat_map, added, implied, subs_with}
use Rattle.partition_reference.proofs.pulling.count_for_event.Given as goal

abbrev pub invariant-loop-index : goal.invariant-loop-index
invariant-loop-index l =
    record {
      count : (position : ℕ) → length (fold added (subs_with l.rules position l.subs l.earlier) (flat_map (implied position l.event) (take l.index l.rules))) ≡ length (subs_with l.rules position l.subs l.earlier) + l.count;
      bound : l.count ≤ l.index;
    }
