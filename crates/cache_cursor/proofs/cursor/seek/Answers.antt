use Rattle.cache_cursor.proofs.Prelude.{◌≡◌, ℕ, ◌+◌, ◌*◌, ◌/◌, ◌%◌, Bool, List, length, take, drop, subst, arith, is_owed, Event}
use Rattle.cache_cursor.specs.Seek.{IsFirst, NoneBetween}
use Rattle.cache_cursor.proofs.SeekLemmas.{none_in_block, first_in_block, first_there, none_there}
use Rattle.cache_cursor.proofs.cursor.seek.Goals as goal

-- the first block gives the first place
first_here : (passes : Event → Bool) (events block : List Event) (from place : ℕ) → block ≡ take 64 (drop (64 * (from / 64)) events)
    → IsFirst passes block (from % 64) place → IsFirst passes events from (64 * (from / 64) + place)
first_here passes events block from place same first =
    first_in_block passes events from (from / 64) (from % 64) place (omega arith)
    (λ other reached before within. absurd (omega arith))
    (subst (λ xs. IsFirst passes xs (from % 64) place) same first)

-- the first block has no such place
none_here : (passes : Event → Bool) (events block : List Event) (from : ℕ) → block ≡ take 64 (drop (64 * (from / 64)) events)
    → NoneBetween passes block (from % 64) (length block) → NoneBetween passes events from (64 * (from / 64 + 1))
none_here passes events block from same none place reached before within =
    none_in_block passes events (from / 64) (from % 64) (subst (λ xs. NoneBetween passes xs (from % 64) (length xs)) same none)
    place (omega arith) before within

pub overflow_add-result : goal.overflow_add-result
overflow_add-result c =
    let passes : Event → Bool = λ event. is_owed c.args.stream.now c.args.start.now event in
    let first : IsFirst passes c.args.cache.now.events c.args.from (64 * (c.args.from / 64) + c.in-Some.place) =
    first_here passes c.args.cache.now.events c.block.result.now c.args.from c.in-Some.place c.block.ensures c.in-Some.ensures.found in
    omega (arith, first.within, c.requires.places)

pub returns-in-Some-clause-found : goal.returns-in-Some-clause-found
returns-in-Some-clause-found c =
    first_here (λ event. is_owed c.args.stream.now c.args.start.now event) c.args.cache.now.events c.block.result.now c.args.from c.in-Some.place c.block.ensures c.in-Some.ensures.found

pub loop-index-init : goal.loop-index-init
loop-index-init c =
    none_here (λ event. is_owed c.args.stream.now c.args.start.now event) c.args.cache.now.events c.block.result.now c.args.from c.block.ensures c.in_default.ensures.none

pub overflow_add-result-in-Some-next_in_block : goal.overflow_add-result-in-Some-next_in_block
overflow_add-result-in-Some-next_in_block c =
    let passes : Event → Bool = λ event. is_owed c.args.stream.now c.args.start.now event in
    let first : IsFirst passes c.args.cache.now.events c.args.from (64 * c.loop-index.index + c.in-Some-next_in_block.place) =
    first_there passes c.args.cache.now.events c.block-in-loop-index.result.now c.args.from c.loop-index.index c.in-Some-next_in_block.place (omega (arith, c.loop-index.auto.index)) c.block-in-loop-index.ensures c.loop-index.invariant c.in-Some-next_in_block.ensures.found in
    omega (arith, first.within, c.requires.places)

pub returns-in-Some-next_in_block-clause-found : goal.returns-in-Some-next_in_block-clause-found
returns-in-Some-next_in_block-clause-found c =
    first_there (λ event. is_owed c.args.stream.now c.args.start.now event) c.args.cache.now.events c.block-in-loop-index.result.now c.args.from c.loop-index.index c.in-Some-next_in_block.place (omega (arith, c.loop-index.auto.index)) c.block-in-loop-index.ensures c.loop-index.invariant c.in-Some-next_in_block.ensures.found

pub loop-index-preserved : goal.loop-index-preserved
loop-index-preserved c =
    none_there (λ event. is_owed c.args.stream.now c.args.start.now event) c.args.cache.now.events c.block-in-loop-index.result.now c.args.from c.loop-index.index c.block-in-loop-index.ensures c.loop-index.invariant c.in_default-next_in_block.ensures.none
