use Rattle.cache_cursor.proofs.Prelude.{◌*◌, is_owed}
use Rattle.cache_cursor.specs.Seek.{NoneBetween}
use Rattle.cache_cursor.proofs.cursor.seek.Given as goal

abbrev pub invariant-loop-index : goal.invariant-loop-index
invariant-loop-index l = NoneBetween (λ event. is_owed l.stream l.start event) l.cache.events l.from (64 * l.index)
