use Rattle.cache_cursor.proofs.Prelude.{length, subst, sym, arith, IfNone, is_owed}
use Rattle.cache_cursor.specs.Seek.{NoneBetween}
use Rattle.cache_cursor.proofs.SeekLemmas.{none_tagged, untagged_clear}
use Rattle.cache_cursor.proofs.cursor.next_from.Goals as goal

pub returns-in_err-next_mark-clause-none : goal.returns-in_err-next_mark-clause-none
returns-in_err-next_mark-clause-none c =
    let events = c.args.block.now in
    subst (λ result. IfNone result (NoneBetween (λ event. is_owed c.args.stream.now c.args.start.now event) events c.args.from (length events))) (sym c.from_residual.ensures)
    (none_tagged c.args.stream.now c.args.start.now events c.args.tag c.args.from (length events) c.requires
    (λ place reached before within.
    untagged_clear events c.tags.result.now c.args.tag c.mask.result c.args.from 64 c.headers-few.ensures.bound c.tags.ensures.tags c.mask.ensures c.in_err-next_mark.ensures.none
    place reached (omega (arith, c.headers-few.ensures.bound)) within))
