use Rattle.cache_cursor.proofs.Prelude.{length, get_or, sym, ap, ◌∙◌, arith, is_owed}
use Rattle.cache_cursor.proofs.SeekLemmas.{hit, miss, untagged_clear, none_then, none_tagged}
use Rattle.cache_cursor.proofs.cursor.next_in_full.Goals as goal

pub returns-then-is_owed-clause-found : goal.returns-then-is_owed-clause-found
returns-then-is_owed-clause-found c =
    let events = c.args.block.now in
    let tag = c.args.tag in
    let at = c.loop-place.at in
    let place = c.in-Some.place in
    let found = c.in-Some.ensures.found in
    let event = c.index-headers-place.result in
    hit c.args.stream.now c.args.start.now events tag 0 at place event c.requires.tag (omega arith) found.reached (omega (arith, found.within, c.requires.full))
    (c.index-headers-place.is ∙ ap (λ xs. get_or xs place event) c.headers-headers.ensures.events)
    c.loop-place.invariant
    (untagged_clear events c.tags.result.now tag c.mask-marks.result at place c.headers-headers.ensures.bound c.tags.ensures.tags c.mask-marks.ensures found.before)
    (sym c.is_owed.ensures ∙ c.if-is_owed.true)

pub loop-place-preserved : goal.loop-place-preserved
loop-place-preserved c =
    let events = c.args.block.now in
    let tag = c.args.tag in
    let at = c.loop-place.at in
    let place = c.in-Some.place in
    let found = c.in-Some.ensures.found in
    let event = c.index-headers-place.result in
    miss c.args.stream.now c.args.start.now events tag 0 at place event c.requires.tag (omega arith) found.reached (omega (arith, found.within, c.requires.full))
    (c.index-headers-place.is ∙ ap (λ xs. get_or xs place event) c.headers-headers.ensures.events)
    c.loop-place.invariant
    (untagged_clear events c.tags.result.now tag c.mask-marks.result at place c.headers-headers.ensures.bound c.tags.ensures.tags c.mask-marks.ensures found.before)
    (sym c.is_owed.ensures ∙ c.if-is_owed.false)

pub returns-clause-none : goal.returns-clause-none
returns-clause-none c =
    let events = c.args.block.now in
    let at = c.loop-place.at in
    none_then (λ event. is_owed c.args.stream.now c.args.start.now event) events 0 at (length events) c.loop-place.invariant
    (none_tagged c.args.stream.now c.args.start.now events c.args.tag at (length events) c.requires.tag
    (λ place reached before. untagged_clear events c.tags.result.now c.args.tag c.mask-marks.result at 64 c.headers-headers.ensures.bound c.tags.ensures.tags c.mask-marks.ensures c.in_default.ensures.none place reached (omega (arith, c.requires.full))))
