use Rattle.cache_cursor.proofs.Prelude.{◌*◌, not, token_lt}
use Rattle.cache_cursor.specs.Seek.{NoneBetween}
use Rattle.cache_cursor.proofs.cursor.lower.Given as goal

abbrev pub invariant-loop-index : goal.invariant-loop-index
invariant-loop-index l = NoneBetween (λ event. not (token_lt event.token l.token)) l.cache.events 0 (64 * l.index)
