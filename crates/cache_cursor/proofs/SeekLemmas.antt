-- Events that tags rule out, first places in a block and in the cache, and what `first_at` gives for them.
use Rattle.cache_cursor.proofs.Prelude.{bare, tag_of, tags_of, ◌≡◌, ◌≢◌, ℕ, suc, [], ◌∷◌, map, set, inl, inr, get_or-set_same, get_or-set_other, refl, ◌+◌, ◌-◌, ◌*◌, ◌<◌, ◌≤◌, Bool, true, false, List, length, get_or, take, drop, Some, None, sym, ◌∙◌, ap, subst, arith, ⊎_elim, ◌↔◌, length-drop, length-take, unwrap_or, is_owed, no_event, Event}
use Rattle.std.proofs.lemmas.Bool.{both_ways, cases_Bool, cases_eq, cases_lt}
use Rattle.std.proofs.lemmas.List.{get_or-map, get_or-take, get_or-drop, get_or_read}
use Rattle.std.specs.Int.{bit_at}
use Rattle.stream_ident.specs.declared.ident.StreamId.{StreamId}
use Rattle.stream_ident.specs.declared.token.Token.{Token}
use Rattle.stream_ident.specs.Words.{first_at}
use Rattle.stream_ident.specs.declared.limits.TheConstants.{BLOCK_EVENTS}
use Rattle.queue_cache.specs.Cache.{event_at, high, PlainCache}
use Rattle.tag_scan.specs.Tags.{IsAbsentBetween}
use Rattle.stream_ident.specs.Name.{same_stream}
use Rattle.stream_ident.proofs.FirstLemmas.{first_at-nowhere, first_at-there}
use Rattle.cache_cursor.specs.Cursor.{AreMarked}
use Rattle.cache_cursor.specs.Seek.{NoneBetween, IsFirst, NoneMarked}
use Rattle.stream_ident.proofs.SameValues.{same_stream-equal}

-- an event of another tag isn't owed
unowed : (stream : StreamId) (start : Token) (event : Event) → tag_of event.stream ≢ tag_of stream → is_owed stream start event ≡ false
unowed stream start event other =
    ⊎_elim
    (λ (same : same_stream stream event.stream ≡ true). absurd (other (ap tag_of (sym (same_stream-equal stream event.stream same)))))
    (λ (no : same_stream stream event.stream ≡ false). rw no)
    (cases_Bool (same_stream stream event.stream))

-- where a stretch of the tags lacks the stream's, no event there is owed
pub none_tagged : (stream : StreamId) (start : Token) (events : List Event) (tag from to : ℕ) → tag ≡ tag_of stream
    → ((place : ℕ) → from ≤ place → place < to → place < length events → get_or (tags_of events) place 0 ≢ tag)
    → NoneBetween (λ event. is_owed stream start event) events from to
none_tagged stream start events tag from to same absent place reached before within =
    unowed stream start (get_or events place no_event)
    (λ other. absent place reached before within (get_or-map (λ event. tag_of event.stream) events place no_event 0 within ∙ other ∙ sym same))

-- the last event is of another tag
pub none_at_last : (stream : StreamId) (start : Token) (events : List Event) (last : ℕ) → last + 1 ≡ length events
    → tag_of (get_or events last no_event).stream ≢ tag_of stream → NoneBetween (λ event. is_owed stream start event) events last (length events)
none_at_last stream start events last end other place reached before within =
    let same : place ≡ last = omega arith in
    ap (λ k. is_owed stream start (get_or events k no_event)) same ∙ unowed stream start (get_or events last no_event) other

module _ (passes : Event → Bool) (events : List Event) where
  pub none_then : (from middle to : ℕ) → NoneBetween passes events from middle → NoneBetween passes events middle to → NoneBetween passes events from to
  none_then from middle to front back place reached before within =
      ⊎_elim (λ low. front place reached low within) (λ high. back place high before within) (cases_lt place middle)

  pub none_more : (from place : ℕ) → NoneBetween passes events from place → passes (get_or events place no_event) ≡ false → NoneBetween passes events from (place + 1)
  none_more from place front here =
      none_then from place (place + 1) front (λ other reached before within. let same : other ≡ place = omega arith in ap (λ k. passes (get_or events k no_event)) same ∙ here)

  -- an event in a block
  in_block : (index inside : ℕ) → inside < BLOCK_EVENTS → get_or (take BLOCK_EVENTS (drop (BLOCK_EVENTS * index) events)) inside no_event ≡ get_or events (BLOCK_EVENTS * index + inside) no_event
  in_block index inside within =
      get_or-take BLOCK_EVENTS (drop (BLOCK_EVENTS * index) events) inside no_event within ∙ get_or-drop (BLOCK_EVENTS * index) events inside no_event

  length-block : (index inside : ℕ) → inside < length (take BLOCK_EVENTS (drop (BLOCK_EVENTS * index) events)) → (inside < BLOCK_EVENTS) × (BLOCK_EVENTS * index + inside < length events)
  length-block index inside within =
      let taken = length-take BLOCK_EVENTS (drop (BLOCK_EVENTS * index) events) in
      let dropped = length-drop (BLOCK_EVENTS * index) events in
      let low : inside < BLOCK_EVENTS = omega (arith, within, taken, dropped) in
      let high : BLOCK_EVENTS * index + inside < length events = omega (arith, within, taken, dropped) in (low, high)

  pub none_in_block : (index inside : ℕ) → NoneBetween passes (take BLOCK_EVENTS (drop (BLOCK_EVENTS * index) events)) inside (length (take BLOCK_EVENTS (drop (BLOCK_EVENTS * index) events)))
      → NoneBetween passes events (BLOCK_EVENTS * index + inside) (BLOCK_EVENTS * (index + 1))
  none_in_block index inside none place reached before within =
      let at : place ≡ BLOCK_EVENTS * index + (place - BLOCK_EVENTS * index) = omega arith in
      let there : place - BLOCK_EVENTS * index < length (take BLOCK_EVENTS (drop (BLOCK_EVENTS * index) events)) =
      omega (arith, length-take BLOCK_EVENTS (drop (BLOCK_EVENTS * index) events), length-drop (BLOCK_EVENTS * index) events) in
      ap (λ k. passes (get_or events k no_event)) at
      ∙ ap passes (sym (in_block index (place - BLOCK_EVENTS * index) (omega arith)))
      ∙ none (place - BLOCK_EVENTS * index) (omega arith) there there

  pub first_in_block : (from index inside place : ℕ) → from ≤ BLOCK_EVENTS * index + inside → NoneBetween passes events from (BLOCK_EVENTS * index + inside)
      → IsFirst passes (take BLOCK_EVENTS (drop (BLOCK_EVENTS * index) events)) inside place → IsFirst passes events from (BLOCK_EVENTS * index + place)
  first_in_block from index inside place reached before first =
      let there : (place < BLOCK_EVENTS) × (BLOCK_EVENTS * index + place < length events) = length-block index place first.within in
      record {
        reached = omega (arith, first.reached);
        within = there.1;
        found = ap passes (sym (in_block index place there.0)) ∙ first.found;
        before = none_then from (BLOCK_EVENTS * index + inside) (BLOCK_EVENTS * index + place) before
            (λ other low high within.
            let at : other ≡ BLOCK_EVENTS * index + (other - BLOCK_EVENTS * index) = omega arith in
            ap (λ k. passes (get_or events k no_event)) at
            ∙ ap passes (sym (in_block index (other - BLOCK_EVENTS * index) (omega (arith, there.0))))
            ∙ first.before (other - BLOCK_EVENTS * index) (omega arith) (omega arith) (omega (arith, first.within)));
      }

-- the tags of a stretch of events lack this one
abbrev pub IsUntagged : List Event → ℕ → ℕ → ℕ → Type 0
IsUntagged events tag from to = (place : ℕ) → from ≤ place → place < to → place < length events → get_or (tags_of events) place 0 ≢ tag

-- what a list of tags lacks, the events lack whose tags these are
pub untagged_in : (events : List Event) (tags : List ℕ) (tag from to : ℕ) → tags ≡ tags_of events → IsAbsentBetween tags from to tag → IsUntagged events tag from to
untagged_in events tags tag from to same absent place reached before within =
    rw same at (absent place reached before)

-- where marks of a full block's tags are clear
pub untagged_clear : (events : List Event) (tags : List ℕ) (tag marks from to : ℕ) → length events ≤ 64 → take (length events) tags ≡ tags_of events
    → ((i : ℕ) → (bit_at marks i ≡ 1) ↔ ((i < 64) × (get_or tags i 0 ≡ tag))) → NoneMarked marks from to → IsUntagged events tag from to
untagged_clear events tags tag marks from to few shown mark clear place reached before within is =
    let below : place < 64 = omega arith in
    let there : get_or tags place 0 ≡ tag = sym (get_or-take (length events) tags place 0 within) ∙ ap (λ xs. get_or xs place 0) shown ∙ is in
    clear place reached before ((mark place).1 (below, there))

-- an event of the tag is read, behind a stretch without one that is owed and a stretch without the tag
module _ (stream : StreamId) (start : Token) (events : List Event) (tag from at place : ℕ) (event : Event)
    (same : tag ≡ tag_of stream) (reached : from ≤ at) (next : at ≤ place) (within : place < length events) (read : event ≡ get_or events place event)
    (before : NoneBetween (λ e. is_owed stream start e) events from at) (untagged : IsUntagged events tag at place) where
  is_read : event ≡ get_or events place no_event
  is_read = get_or_read events place event within read no_event

  none_before : NoneBetween (λ e. is_owed stream start e) events from place
  none_before =
      none_then (λ e. is_owed stream start e) events from at place before (none_tagged stream start events tag at place same untagged)

  pub hit : is_owed stream start event ≡ true → IsFirst (λ e. is_owed stream start e) events from place
  hit owed =
      record {
        reached = omega arith;
        within = within;
        found = ap (λ e. is_owed stream start e) (sym is_read) ∙ owed;
        before = none_before;
      }

  pub miss : is_owed stream start event ≡ false → NoneBetween (λ e. is_owed stream start e) events from (place + 1)
  miss other =
      none_more (λ e. is_owed stream start e) events from place none_before (ap (λ e. is_owed stream start e) (sym is_read) ∙ other)

-- past the places before `from`
pub first_at-drop_found : (passes : Event → Bool) (n : ℕ) (events : List Event) (from place : ℕ) → IsFirst passes events from place → first_at passes (n + from) (drop from events) ≡ Some (n + place)
first_at-drop_found passes n events from place first =
    let inside = place - from in
    let at : from + inside ≡ place = omega (arith, first.reached) in
    first_at-there passes (n + from) (drop from events) no_event inside (omega (arith, length-drop from events, first.within))
    (ap passes (get_or-drop from events inside no_event) ∙ ap (λ k. passes (get_or events k no_event)) at ∙ first.found)
    (λ other low. ap passes (get_or-drop from events other no_event) ∙ first.before (from + other) (omega arith) (omega arith) (omega (arith, first.within)))
    ∙ ap Some (omega arith)

pub first_at-drop_none : (passes : Event → Bool) (n : ℕ) (events : List Event) (from : ℕ) → NoneBetween passes events from (length events) → first_at passes n (drop from events) ≡ None
first_at-drop_none passes n events from none =
    first_at-nowhere passes n (drop from events) no_event
    (λ other low.
    let within : from + other < length events = omega (arith, length-drop from events) in
    ap passes (get_or-drop from events other no_event) ∙ none (from + other) (omega arith) within within)

-- the positions of a cache that begins at `low`
pub next_none : (passes : Event → Bool) (events : List Event) (from first low : ℕ) → first ≡ low → NoneBetween passes events (from - first) (length events)
    → None ≡ first_at passes from (drop (from - low) events)
next_none passes events from first low same none =
    sym (first_at-drop_none passes from events (from - low) (subst (λ n. NoneBetween passes events (from - n) (length events)) same none))

pub next_found : (passes : Event → Bool) (events : List Event) (from first low place : ℕ) → first ≡ low → low ≤ from → IsFirst passes events (from - first) place
    → Some (first + place) ≡ first_at passes from (drop (from - low) events)
next_found passes events from first low place same reached found =
    let there : low + (from - low) ≡ from = omega arith in
    ap (λ n. Some (n + place)) same
    ∙ sym (first_at-drop_found passes low events (from - low) place (subst (λ n. IsFirst passes events (from - n) place) same found))
    ∙ ap (λ n. first_at passes n (drop (from - low) events)) there

-- behind blocks without it, a block has the first place
pub first_there : (passes : Event → Bool) (events block : List Event) (from index place : ℕ) → from ≤ BLOCK_EVENTS * index → block ≡ take BLOCK_EVENTS (drop (BLOCK_EVENTS * index) events)
    → NoneBetween passes events from (BLOCK_EVENTS * index) → IsFirst passes block 0 place → IsFirst passes events from (BLOCK_EVENTS * index + place)
first_there passes events block from index place behind same before first =
    first_in_block passes events from index 0 place (omega arith)
    (λ other reached below within. before other reached (omega arith) within)
    (subst (λ xs. IsFirst passes xs 0 place) same first)

-- behind blocks without it, a block lacks it too
pub none_there : (passes : Event → Bool) (events block : List Event) (from index : ℕ) → block ≡ take BLOCK_EVENTS (drop (BLOCK_EVENTS * index) events)
    → NoneBetween passes events from (BLOCK_EVENTS * index) → NoneBetween passes block 0 (length block) → NoneBetween passes events from (BLOCK_EVENTS * (index + 1))
none_there passes events block from index same before none =
    none_then passes events from (BLOCK_EVENTS * index) (BLOCK_EVENTS * (index + 1)) before
    (λ place reached below within.
    none_in_block passes events index 0 (subst (λ xs. NoneBetween passes xs 0 (length xs)) same none) place (omega arith) below within)

-- the least position whose event passes, counted from the first one's
pub least-found : (passes : Event → Bool) (events : List Event) (low high place : ℕ) → IsFirst passes events 0 place → low + place ≡ unwrap_or (first_at passes low events) high
least-found passes events low high place first =
    sym (ap (λ found. unwrap_or found high)
    (first_at-there passes low events no_event place first.within first.found
    (λ other below. first.before other (omega arith) below (omega (arith, first.within)))))

pub least-none : (passes : Event → Bool) (events : List Event) (low high to : ℕ) → length events ≤ to → NoneBetween passes events 0 to → high ≡ unwrap_or (first_at passes low events) high
least-none passes events low high to all none =
    sym (ap (λ found. unwrap_or found high)
    (first_at-nowhere passes low events no_event (λ other below. none other (omega arith) (omega arith) below)))

-- what passes is first where it is first with the payloads
pub first_at-bare : (passes : Event → Bool) → ((event : Event) → passes (bare event) ≡ passes event) → (n : ℕ) (events : List Event) → first_at passes n (map bare events) ≡ first_at passes n events
first_at-bare passes same n [] = refl
first_at-bare passes same n (event ∷ events) = rw (same event, first_at-bare passes same (suc n) events) refl

-- ---- tags that are marked

-- the tag of each event from a position on, and before another, is marked
abbrev pub IsMarkedUpTo : PlainCache → ℕ → ℕ → List Bool → Type 0
IsMarkedUpTo cache from to marks = (at : ℕ) → from ≤ at → at < to → get_or marks (tag_of (event_at cache at).stream) false ≡ true

pub marked-more : (cache : PlainCache) (from to tag : ℕ) (event : Event) (marks : List Bool) → tag < length marks → event ≡ event_at cache to → tag ≡ tag_of event.stream → IsMarkedUpTo cache from to marks → IsMarkedUpTo cache from (to + 1) (set marks tag true)
marked-more cache from to tag event marks within read is before at reached below =
    elim (cases_eq (tag_of (event_at cache at).stream) tag) [
      | inl same ↦ ap (λ k. get_or (set marks tag true) k false) same ∙ get_or-set_same marks tag true false within
      | inr other ↦
          get_or-set_other marks tag (tag_of (event_at cache at).stream) true false other
          ∙ before at reached (elim (cases_lt at to) [
            | inl low ↦ low
            | inr high ↦
                let here : at ≡ to = omega arith in
                absurd (other (ap (λ k. tag_of (event_at cache k).stream) here ∙ ap (λ e. tag_of e.stream) (sym read) ∙ sym is))
          ])
    ]

pub marked-all : (cache : PlainCache) (from to : ℕ) (marks : List Bool) → cache.low ≤ from → high cache ≤ to → IsMarkedUpTo cache from to marks → AreMarked cache from marks
marked-all cache from to marks low end marked at stream start reached unmarked =
    sym (next_none (λ event. is_owed stream start event) cache.events at cache.low cache.low refl
    (λ place past below within.
    unowed stream start (get_or cache.events place no_event)
    (λ same.
    let back : place ≡ cache.low + place - cache.low = omega arith in
    let tagged = marked (cache.low + place) (omega arith) (omega arith) in
    both_ways (get_or marks (tag_of stream) false) unmarked
    (ap (λ k. get_or marks k false) (sym same ∙ ap (λ k. tag_of (get_or cache.events k no_event).stream) back) ∙ tagged))))
