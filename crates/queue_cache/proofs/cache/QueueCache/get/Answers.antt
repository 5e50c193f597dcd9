use Rattle.std.proofs.Common.{◌≡◌, ◌-◌, ◌*◌, ◌%◌, ◌/◌, ◌<◌, ◌∙◌, ap, length, get_or, take, drop, arith}
use Rattle.std.proofs.lemmas.List.{get_or_read}
use Rattle.stream_ident.specs.Event.{no_event}
use Rattle.queue_cache.proofs.RingLemmas.{place_within, get_or-block}
use Rattle.queue_cache.proofs.cache.QueueCache.get.Goals as goal

pub bounds-headers-place : goal.bounds-headers-place
bounds-headers-place c =
    let events = c.args.self.now.events in
    let low : c.self.inside.low ≡ c.args.self.now.low = ap (λ cache. cache.low) c.self.view_is in
    let place = c.args.position - c.self.inside.low in
    let here : c.headers-headers.result.now ≡ take 64 (drop (64 * (place / 64)) events) = c.headers-headers.ensures.events ∙ c.block.ensures in
    rw here (place_within events place (omega (arith, low, c.requires.low, c.requires.high)))

pub returns : goal.returns
returns c =
    let events = c.args.self.now.events in
    let low : c.self.inside.low ≡ c.args.self.now.low = ap (λ cache. cache.low) c.self.view_is in
    let place = c.args.position - c.self.inside.low in
    let here : c.headers-headers.result.now ≡ take 64 (drop (64 * (place / 64)) events) = c.headers-headers.ensures.events ∙ c.block.ensures in
    let within : place % 64 < length c.headers-headers.result.now = rw here (place_within events place (omega (arith, low, c.requires.low, c.requires.high))) in
    get_or_read c.headers-headers.result.now (place % 64) c.index-headers-place.result within c.index-headers-place.is no_event
    ∙ ap (λ block. get_or block (place % 64) no_event) here
    ∙ get_or-block events place no_event
    ∙ ap (λ first. get_or events (c.args.position - first) no_event) low
