use Rattle.cache_cursor.proofs.Prelude.{not, token_lt}
use Rattle.cache_cursor.specs.Seek.{NoneBetween}
use Rattle.cache_cursor.proofs.cursor.first_from_token.Given as goal

abbrev pub invariant-loop-place : goal.invariant-loop-place
invariant-loop-place l = NoneBetween (λ event. not (token_lt event.token l.token)) l.headers 0 l.place
