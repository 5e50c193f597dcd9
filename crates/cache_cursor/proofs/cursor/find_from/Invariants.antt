use Rattle.cache_cursor.proofs.Prelude.{◌-◌, ◌≤◌, length, is_owed}
use Rattle.cache_cursor.specs.Seek.{NoneBetween}
use Rattle.cache_cursor.proofs.cursor.find_from.Given as goal

abbrev pub invariant-loop-place : goal.invariant-loop-place
invariant-loop-place l = record {
  reached : l.from ≤ l.at;
  before : NoneBetween (λ event. is_owed l.stream l.start event) l.block l.from l.at;
}

abbrev pub decreases-loop-place : goal.decreases-loop-place
decreases-loop-place l = length l.tags - l.at
