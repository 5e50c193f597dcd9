use Rattle.partition_reference.proofs.Prelude.{◌≡◌, ◌≤◌, ◌+◌, ◌*◌, ℕ, length, take, MOST_RULES, subs_with}
use Rattle.partition_reference.proofs.pulling.count_new.Given as goal

abbrev pub invariant-loop-index : goal.invariant-loop-index
invariant-loop-index l =
    record {
      count : (position : ℕ) → length (subs_with l.rules position l.subs (take l.index l.events)) ≡ length l.subs + l.count;
      bound : l.count ≤ MOST_RULES * l.index;
    }
