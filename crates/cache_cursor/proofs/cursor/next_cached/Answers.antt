use Rattle.cache_cursor.proofs.Prelude.{◌∙◌, is_owed}
use Rattle.cache_cursor.proofs.SeekLemmas.{next_found, next_none}
use Rattle.cache_cursor.proofs.cursor.next_cached.Goals as goal

pub returns-in_err-place-clause-next : goal.returns-in_err-place-clause-next
returns-in_err-place-clause-next c =
    c.from_residual.ensures
    ∙ next_none (λ event. is_owed c.args.stream.now c.args.start.now event) c.args.cache.now.events c.args.from c.low-low.result c.args.cache.now.low c.low-low.ensures c.in_err-place.ensures.none

pub returns-clause-next : goal.returns-clause-next
returns-clause-next c =
    next_found (λ event. is_owed c.args.stream.now c.args.start.now event) c.args.cache.now.events c.args.from c.low-low.result c.args.cache.now.low c.in_ok-place.place c.low-low.ensures c.requires.low c.in_ok-place.ensures.found
