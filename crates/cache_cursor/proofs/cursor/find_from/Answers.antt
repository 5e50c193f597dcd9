use Rattle.cache_cursor.proofs.Prelude.{tag_of, tags_of, ◌≡◌, ℕ, List, length, get_or, take, sym, ap, ◌∙◌, arith, length-take, is_owed, Event}
use Rattle.std.proofs.lemmas.List.{length-map}
use Rattle.cache_cursor.proofs.SeekLemmas.{hit, miss, untagged_in, none_then, none_tagged}
use Rattle.cache_cursor.proofs.cursor.find_from.Goals as goal

-- the part of the tags that is searched
searched : (events seen : List Event) (tags row : List ℕ) → seen ≡ events → row ≡ tags → take (length events) tags ≡ tags_of events → take (length seen) row ≡ tags_of events
searched events seen tags row same_events same_tags shown =
    ap (λ xs. take (length xs) row) same_events ∙ ap (take (length events)) same_tags ∙ shown

pub returns-then-is_owed-clause-found : goal.returns-then-is_owed-clause-found
returns-then-is_owed-clause-found c =
    let events = c.args.block.now in
    let seen = c.headers-headers.result.now in
    let row = c.as_slice-tags.result.now in
    let at = c.loop-place.at in
    let place = c.in-Some.place in
    let found = c.in-Some.ensures.found in
    let event = c.index-headers-place.result in
    let same = searched events seen c.tags.result.now row c.headers-headers.ensures.events c.as_slice-tags.ensures c.tags.ensures.tags in
    hit c.args.stream.now c.args.start.now events c.args.tag c.args.from at place event c.requires c.loop-place.invariant.reached found.reached
    (omega (arith, found.within, length-take (length seen) row, ap length c.headers-headers.ensures.events))
    (c.index-headers-place.is ∙ ap (λ xs. get_or xs place event) c.headers-headers.ensures.events)
    c.loop-place.invariant.before
    (untagged_in events (take (length seen) row) c.args.tag at place same found.before)
    (sym c.is_owed.ensures ∙ c.if-is_owed.true)

pub loop-place-preserved : goal.loop-place-preserved
loop-place-preserved c =
    let events = c.args.block.now in
    let seen = c.headers-headers.result.now in
    let row = c.as_slice-tags.result.now in
    let at = c.loop-place.at in
    let place = c.in-Some.place in
    let found = c.in-Some.ensures.found in
    let event = c.index-headers-place.result in
    let same = searched events seen c.tags.result.now row c.headers-headers.ensures.events c.as_slice-tags.ensures c.tags.ensures.tags in
    record {
      reached = omega (arith, found.reached, c.loop-place.invariant.reached);
      before = miss c.args.stream.now c.args.start.now events c.args.tag c.args.from at place event c.requires c.loop-place.invariant.reached found.reached
          (omega (arith, found.within, length-take (length seen) row, ap length c.headers-headers.ensures.events))
          (c.index-headers-place.is ∙ ap (λ xs. get_or xs place event) c.headers-headers.ensures.events)
          c.loop-place.invariant.before
          (untagged_in events (take (length seen) row) c.args.tag at place same found.before)
          (sym c.is_owed.ensures ∙ c.if-is_owed.false);
    }

pub returns-clause-none : goal.returns-clause-none
returns-clause-none c =
    let events = c.args.block.now in
    let seen = c.headers-headers.result.now in
    let row = c.as_slice-tags.result.now in
    let at = c.loop-place.at in
    let same = searched events seen c.tags.result.now row c.headers-headers.ensures.events c.as_slice-tags.ensures c.tags.ensures.tags in
    let long : length (take (length seen) row) ≡ length events =
    ap length same ∙ length-map events (λ event. tag_of event.stream) in
    none_then (λ event. is_owed c.args.stream.now c.args.start.now event) events c.args.from at (length events) c.loop-place.invariant.before
    (none_tagged c.args.stream.now c.args.start.now events c.args.tag at (length events) c.requires
    (untagged_in events (take (length seen) row) c.args.tag at (length events) same
    (λ place reached before. c.in_default.ensures.absent place reached (omega (arith, long, before)))))
