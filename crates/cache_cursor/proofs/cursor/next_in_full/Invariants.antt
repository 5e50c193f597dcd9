use Rattle.cache_cursor.proofs.Prelude.{◌-◌, is_owed}
use Rattle.cache_cursor.specs.Seek.{NoneBetween}
use Rattle.cache_cursor.proofs.cursor.next_in_full.Given as goal

abbrev pub invariant-loop-place : goal.invariant-loop-place
invariant-loop-place l = NoneBetween (λ event. is_owed l.stream l.start event) l.block 0 l.at

abbrev pub decreases-loop-place : goal.decreases-loop-place
decreases-loop-place l = 64 - l.at
