-- Events in blocks, and blocks that are extended, rotated and emptied.
use Rattle.std.proofs.Common.{append_assoc, ◌≡◌, ℕ, zero, suc, ◌+◌, ◌-◌, ◌*◌, ◌/◌, ◌%◌, ◌^◌, ◌<◌, ◌≤◌, List, [], ◌∷◌, ◌++◌, length, get_or, set, take, drop, replicate, refl, sym, ◌∙◌, ap, arith, length-append, length-drop, length-take}
use Rattle.std.proofs.lemmas.List.{take-append-drop, drop_all, take_all, take-append-le, drop-append-le, drop-drop, length-replicate, nil_from_length, get_or-take, get_or-drop, set_at, drop_more, replicate_more}
use Rattle.stream_ident.specs.declared.event.Event.{Event}
use Rattle.stream_ident.specs.declared.limits.TheConstants.{BLOCK_EVENTS, MOST_BLOCKS}
use Rattle.queue_cache.specs.Ring.{joined, pieces, plain_of, IsRing}

pub length-pieces : (n : ℕ) (events : List Event) → length (pieces n events) ≡ n
length-pieces zero events = refl
length-pieces (suc n) events = ap suc (length-pieces n (drop BLOCK_EVENTS events))

-- the blocks give back the events that fit
pub joined-pieces : (n : ℕ) (events : List Event) → length events ≤ BLOCK_EVENTS * n → joined (pieces n events) ≡ events
joined-pieces zero events fits = sym (nil_from_length events (omega arith))
joined-pieces (suc n) events fits =
    ap (λ rest. take BLOCK_EVENTS events ++ rest) (joined-pieces n (drop BLOCK_EVENTS events) (omega (arith, length-drop BLOCK_EVENTS events)))
    ∙ take-append-drop BLOCK_EVENTS events

-- the events of a block
pub get_or-pieces : (n : ℕ) (events : List Event) (index : ℕ) → index < n → get_or (pieces n events) index [] ≡ take BLOCK_EVENTS (drop (BLOCK_EVENTS * index) events)
get_or-pieces zero events index within = absurd (omega arith)
get_or-pieces (suc n) events zero within = refl
get_or-pieces (suc n) events (suc index) within =
    get_or-pieces n (drop BLOCK_EVENTS events) index (omega arith)
    ∙ ap (take BLOCK_EVENTS) (drop-drop (BLOCK_EVENTS * index) BLOCK_EVENTS events ∙ ap (λ k. drop k events) (omega arith))

pub pieces-nil : (n : ℕ) → pieces n [] ≡ replicate n []
pieces-nil zero = refl
pieces-nil (suc n) = ap (λ rest. [] ∷ rest) (pieces-nil n)

-- one more block behind those that hold all events is empty
pieces-more : (n : ℕ) (events : List Event) → length events ≤ BLOCK_EVENTS * n → pieces (suc n) events ≡ pieces n events ++ [] ∷ []
pieces-more zero events fits = let none : events ≡ [] = nil_from_length events (omega arith) in ap (pieces 1) none
pieces-more (suc n) events fits =
    ap (λ rest. take BLOCK_EVENTS events ∷ rest) (pieces-more n (drop BLOCK_EVENTS events) (omega (arith, length-drop BLOCK_EVENTS events)))

-- more events in the block with the next free place
pub pieces-append : (n : ℕ) (events more : List Event) (index : ℕ) → index < n → BLOCK_EVENTS * index ≤ length events
    → length events + length more ≤ BLOCK_EVENTS * suc index
    → pieces n (events ++ more) ≡ set (pieces n events) index (get_or (pieces n events) index [] ++ more)
pieces-append zero events more index within reached fits = absurd (omega arith)
pieces-append (suc n) events more zero within reached fits =
    let short : length events ≤ BLOCK_EVENTS = omega arith in
    let all : take BLOCK_EVENTS (events ++ more) ≡ events ++ more = take_all BLOCK_EVENTS (events ++ more) (omega (arith, length-append events more)) in
    let none : drop BLOCK_EVENTS (events ++ more) ≡ [] = drop_all BLOCK_EVENTS (events ++ more) (omega (arith, length-append events more)) in
    let before : take BLOCK_EVENTS events ≡ events = take_all BLOCK_EVENTS events short in
    let rest : drop BLOCK_EVENTS events ≡ [] = drop_all BLOCK_EVENTS events short in
    cc
pieces-append (suc n) events more (suc index) within reached fits =
    let long : BLOCK_EVENTS ≤ length events = omega arith in
    let first : take BLOCK_EVENTS (events ++ more) ≡ take BLOCK_EVENTS events = take-append-le BLOCK_EVENTS events more long in
    let rest : drop BLOCK_EVENTS (events ++ more) ≡ drop BLOCK_EVENTS events ++ more = drop-append-le BLOCK_EVENTS events more long in
    let behind : pieces n (drop BLOCK_EVENTS events ++ more) ≡ set (pieces n (drop BLOCK_EVENTS events)) index (get_or (pieces n (drop BLOCK_EVENTS events)) index [] ++ more) =
    pieces-append n (drop BLOCK_EVENTS events) more index (omega arith) (omega (arith, length-drop BLOCK_EVENTS events)) (omega (arith, length-drop BLOCK_EVENTS events)) in
    cc (ap (pieces n) rest)

-- the first block goes, and an empty one comes
pieces-drop : (n : ℕ) (events : List Event) → 1 ≤ n → length events ≤ BLOCK_EVENTS * n → drop 1 (pieces n events) ++ [] ∷ [] ≡ pieces n (drop BLOCK_EVENTS events)
pieces-drop zero events some fits = absurd (omega arith)
pieces-drop (suc n) events some fits = sym (pieces-more n (drop BLOCK_EVENTS events) (omega (arith, length-drop BLOCK_EVENTS events)))

-- blocks that hold these events and no others
pub record Holds (blocks : List (List Event)) (n : ℕ) (events : List Event) : Type 0 where
  pub some : 1 ≤ n
  pub few : n ≤ MOST_BLOCKS
  pub fits : length events ≤ BLOCK_EVENTS * n
  pub packed : blocks ≡ pieces n events

pub ring_of : (blocks : List (List Event)) (n : ℕ) (events : List Event) (capacity low len : ℕ) → Holds blocks n events → capacity ≡ n → len ≡ length events → low + len < 2 ^ 64 → IsRing blocks capacity low len
ring_of blocks n events capacity low len holds full counted positions =
    let count : length blocks ≡ n = ap length holds.packed ∙ length-pieces n events in
    let same : joined blocks ≡ events = ap joined holds.packed ∙ joined-pieces n events holds.fits in
    record {
      full = full ∙ sym count;
      some = omega (arith, holds.some);
      few = omega (arith, holds.few);
      counted = counted ∙ sym (ap length same);
      fits = omega (arith, holds.fits);
      positions = positions;
      packed = cc (holds.packed, count, same);
    }

pub plain_held : (blocks : List (List Event)) (n : ℕ) (events : List Event) (low : ℕ) → Holds blocks n events → plain_of blocks low ≡ record { events = events; low = low; blocks = n }
plain_held blocks n events low holds =
    let count : length blocks ≡ n = ap length holds.packed ∙ length-pieces n events in
    let same : joined blocks ≡ events = ap joined holds.packed ∙ joined-pieces n events holds.fits in cc

pub held_empty : (n : ℕ) → 1 ≤ n → n ≤ MOST_BLOCKS → Holds (replicate n []) n []
held_empty n some few = record { some = some; few = few; fits = omega arith; packed = sym (pieces-nil n) }

module _ (blocks : List (List Event)) (capacity low len : ℕ) (ring : IsRing blocks capacity low len) where
  pub held_rotated : Holds (drop 1 blocks ++ [] ∷ []) (length blocks) (drop BLOCK_EVENTS (joined blocks))
  held_rotated =
      let fits : length (joined blocks) ≤ BLOCK_EVENTS * length blocks = omega (arith, ring.counted, ring.fits) in
      record {
        some = ring.some;
        few = ring.few;
        fits = omega (arith, length-drop BLOCK_EVENTS (joined blocks));
        packed = ap (λ bs. drop 1 bs ++ [] ∷ []) ring.packed ∙ pieces-drop (length blocks) (joined blocks) ring.some fits;
      }

  -- the block with the next free place holds the events past the full blocks
  pub length-next : len / BLOCK_EVENTS < length blocks → length (get_or blocks (len / BLOCK_EVENTS) []) ≡ len % BLOCK_EVENTS
  length-next within =
      let events = joined blocks in
      let here : get_or blocks (len / BLOCK_EVENTS) [] ≡ take BLOCK_EVENTS (drop (BLOCK_EVENTS * (len / BLOCK_EVENTS)) events) =
      ap (λ bs. get_or bs (len / BLOCK_EVENTS) []) ring.packed ∙ get_or-pieces (length blocks) events (len / BLOCK_EVENTS) within in
      omega (
        arith,
        ap length here,
        ring.counted,
        length-take BLOCK_EVENTS (drop (BLOCK_EVENTS * (len / BLOCK_EVENTS)) events),
        length-drop (BLOCK_EVENTS * (len / BLOCK_EVENTS)) events,
      )

  -- a block that holds events
  pub block_in : (index : ℕ) → index < (length (joined blocks) + (BLOCK_EVENTS - 1)) / BLOCK_EVENTS → get_or blocks index [] ≡ take BLOCK_EVENTS (drop (BLOCK_EVENTS * index) (joined blocks))
  block_in index within =
      ap (λ bs. get_or bs index []) ring.packed
      ∙ get_or-pieces (length blocks) (joined blocks) index (omega (arith, ring.counted, ring.fits))

  pub held_extended : (more : List Event) → 0 < length more → length more ≤ BLOCK_EVENTS - len % BLOCK_EVENTS → len + length more ≤ BLOCK_EVENTS * length blocks
      → Holds (set blocks (len / BLOCK_EVENTS) (get_or blocks (len / BLOCK_EVENTS) [] ++ more)) (length blocks) (joined blocks ++ more)
  held_extended more some block room =
      record {
        some = ring.some;
        few = ring.few;
        fits = omega (arith, ring.counted, length-append (joined blocks) more);
        packed =
            ap (λ bs. set bs (len / BLOCK_EVENTS) (get_or bs (len / BLOCK_EVENTS) [] ++ more)) ring.packed
            ∙ sym (pieces-append (length blocks) (joined blocks) more (len / BLOCK_EVENTS) (omega (arith, ring.counted)) (omega (arith, ring.counted)) (omega (arith, ring.counted)));
      }

-- a place in a block
pub place_within : (events : List Event) (place : ℕ) → place < length events → place % BLOCK_EVENTS < length (take BLOCK_EVENTS (drop (BLOCK_EVENTS * (place / BLOCK_EVENTS)) events))
place_within events place within =
    omega (arith, length-take BLOCK_EVENTS (drop (BLOCK_EVENTS * (place / BLOCK_EVENTS)) events), length-drop (BLOCK_EVENTS * (place / BLOCK_EVENTS)) events)

pub get_or-block : (events : List Event) (place : ℕ) (none : Event) → get_or (take BLOCK_EVENTS (drop (BLOCK_EVENTS * (place / BLOCK_EVENTS)) events)) (place % BLOCK_EVENTS) none ≡ get_or events place none
get_or-block events place none =
    get_or-take BLOCK_EVENTS (drop (BLOCK_EVENTS * (place / BLOCK_EVENTS)) events) (place % BLOCK_EVENTS) none (omega arith)
    ∙ get_or-drop (BLOCK_EVENTS * (place / BLOCK_EVENTS)) events (place % BLOCK_EVENTS) none
    ∙ ap (λ k. get_or events k none) (omega arith)

-- one more block is emptied
pub set-emptied : (blocks : List (List Event)) (index : ℕ) → index < length blocks → set (replicate index [] ++ drop index blocks) index [] ≡ replicate (index + 1) [] ++ drop (index + 1) blocks
set-emptied blocks index within =
    ap (λ rest. set (replicate index [] ++ rest) index []) (drop_more blocks index [] within)
    ∙ set_at (replicate index []) (get_or blocks index []) (drop (index + 1) blocks) [] index (length-replicate index [])
    ∙ sym (append_assoc (replicate index []) ([] ∷ []) (drop (index + 1) blocks))
    ∙ ap (λ front. front ++ drop (index + 1) blocks) (replicate_more index [])
