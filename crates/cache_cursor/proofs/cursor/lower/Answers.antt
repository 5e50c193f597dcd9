use Rattle.cache_cursor.proofs.Prelude.{◌+◌, ◌*◌, ◌≤◌, length, ap, ◌∙◌, arith, not, token_lt}
use Rattle.queue_cache.specs.Cache.{high}
use Rattle.cache_cursor.specs.Seek.{IsFirst}
use Rattle.cache_cursor.proofs.SeekLemmas.{first_there, none_there, least-found, least-none}
use Rattle.cache_cursor.proofs.cursor.lower.Goals as goal

-- the place that is found is the first of all
first_found : (c : goal.After-low) → IsFirst (λ event. not (token_lt event.token c.args.token.now)) c.args.cache.now.events 0 (64 * c.loop-index.index + c.in-Some.place)
first_found c =
    first_there (λ event. not (token_lt event.token c.args.token.now)) c.args.cache.now.events c.headers.result.now 0 c.loop-index.index c.in-Some.place
    (omega arith) (c.headers.ensures.events ∙ c.block.ensures) c.loop-index.invariant c.in-Some.ensures.found

pub overflow_add-result-in-Some : goal.overflow_add-result-in-Some
overflow_add-result-in-Some c =
    let first = first_found c in omega (arith, first.within, c.high-high.ensures, c.high-high.type_inv, c.low.ensures)

pub returns-in-Some-clause-lower : goal.returns-in-Some-clause-lower
returns-in-Some-clause-lower c =
    let place = 64 * c.loop-index.index + c.in-Some.place in
    ap (λ low. low + place) c.low.ensures
    ∙ least-found (λ event. not (token_lt event.token c.args.token.now)) c.args.cache.now.events c.args.cache.now.low (high c.args.cache.now) place (first_found c)

pub returns-in-Some-clause-high : goal.returns-in-Some-clause-high
returns-in-Some-clause-high c = let first = first_found c in omega (arith, first.within, c.low.ensures)

pub loop-index-preserved : goal.loop-index-preserved
loop-index-preserved c =
    none_there (λ event. not (token_lt event.token c.args.token.now)) c.args.cache.now.events c.headers.result.now 0 c.loop-index.index
    (c.headers.ensures.events ∙ c.block.ensures) c.loop-index.invariant c.in_default.ensures.none

pub returns-clause-lower : goal.returns-clause-lower
returns-clause-lower c =
    let events = c.args.cache.now.events in
    let all : length events ≤ 64 * c.loop-index.index = omega (arith, c.block_count-index-end.ensures, c.loop-index-test.false) in
    c.high-high.ensures
    ∙ least-none (λ event. not (token_lt event.token c.args.token.now)) events c.args.cache.now.low (high c.args.cache.now) (64 * c.loop-index.index) all c.loop-index.invariant
