-- An agent takes events, done by the parts.
use Rattle.step_core.proofs.Prelude.{registered, Registration, high, bare, ◌≡◌, ◌∙◌, ap, sym, subst, refl, ℕ, ◌+◌, ◌-◌, ◌*◌, ◌<◌, ◌≤◌, min, Bool, true, false, List, [], ◌∷◌, ◌++◌, length, fold, map, take, drop, nat_lt, arith, take-add, drop-drop, drop-map, drop-take, length-append, length-drop, length-map, length-take, map-append, flat_map, if◌then◌else◌, Result, OnErr, Event, SubName, BLOCK_EVENTS, Rule, on-error, token_at, Reply, takes_memory, PlainPartition, Subscription, PlainTable, implied_by, new_states}
use Rattle.stream_ident.specs.Implying.{added}
use Rattle.stream_ident.specs.Implying as making
use Rattle.stream_model.specs.declared.reply.Reply.TheVariants as reply
use Rattle.stream_model.specs.Pulling as plain
use Rattle.pubsub_registry.specs.declared.told.Implied.{Implied}
use Rattle.pubsub_registry.specs.declared.told.Implied.TheVariants as implied_told
use Rattle.pubsub_registry.specs.Implying as implying
use Rattle.partition_queue.specs.Queue.{between}
use Rattle.subscription_table.specs.Table as table
use Rattle.step_core.specs.Assembly.{HasEvents, IsAssembled}
use Rattle.step_core.specs.declared.parts.Parts.{Parts}
use Rattle.step_core.specs.PlainOf.{plain_of}
use Rattle.step_core.specs.Taking.{ahead, filled, taken}
use Rattle.step_core.proofs.HandOps.{Answer, with_subs}
use Rattle.step_core.proofs.PullOps.{made-below, made-grains, made-known, made-length, made-view}
use Rattle.step_core.proofs.ViewLemmas.{records-length}

-- ---- what the rules made of the events

abbrev names_made : PlainTable → List Event → List (SubName × Registration)
names_made t events = implying.names_with t.registry.rules t.registry.names events

abbrev are_too_many : PlainTable → List Event → Bool
are_too_many t events = nat_lt t.registry.most_names (length (names_made t events))

abbrev with_made : PlainTable → List Event → ℕ → PlainTable
with_made t events position =
    record { registry = record t.registry { names = names_made t events }; states = t.states ++ new_states position (drop (length t.registry.names) (names_made t events)) }

abbrev pub MakesIs : PlainTable → PlainTable → List Event → ℕ → Implied → Type 0
MakesIs old new events position implied_told.TooMany = (new ≡ old) × (are_too_many old events ≡ true)
MakesIs old new events position implied_told.Implied = (new ≡ with_made old events position) × (are_too_many old events ≡ false)

made-by : PlainTable → List Event → ℕ → Bool → PlainTable × Implied
made-by t events position many =
    implied_by t position (if many then (t.registry, implied_told.TooMany) else (record t.registry { names = names_made t events }, implied_told.Implied))

-- the rules read no payload
bare-implied : (rules : List Rule) (events : List Event) → implying.all_implied rules (map bare events) ≡ implying.all_implied rules events
bare-implied rules [] = refl
bare-implied rules (event ∷ events) = ap (λ rest. flat_map (making.implied_by registered event) rules ++ rest) (bare-implied rules events)

bare-made : (t : PlainTable) (events : List Event) → names_made t (map bare events) ≡ names_made t events
bare-made t events = ap (fold added t.registry.names) (bare-implied t.registry.rules events)

bare-imply : (t : PlainTable) (events : List Event) (position : ℕ) → table.imply t (map bare events) position ≡ table.imply t events position
bare-imply t events position =
    ap (λ names. implied_by t position (if nat_lt t.registry.most_names (length names) then (t.registry, implied_told.TooMany) else (record t.registry { names = names }, implied_told.Implied)))
    (bare-made t events)

imply-ahead : (parts : Parts) (count top : ℕ) (seen : List Event) → top ≡ high parts.agent.cache → seen ≡ map bare (between parts.queue top (top + count))
    → table.imply parts.subs seen top ≡ table.imply parts.subs (ahead parts count) (high parts.agent.cache)
imply-ahead parts count top seen is_top is_seen =
    ap {B = PlainTable × Implied} (λ es. table.imply parts.subs es top) (is_seen ∙ ap (λ from. map bare (between parts.queue from (from + count))) is_top)
    ∙ bare-imply parts.subs (ahead parts count) top
    ∙ ap {B = PlainTable × Implied} (λ n. table.imply parts.subs (ahead parts count) n) is_top

pub makes-is : (parts : Parts) (new : PlainTable) (count top : ℕ) (seen : List Event) (given told : Implied) → top ≡ high parts.agent.cache → seen ≡ map bare (between parts.queue top (top + count)) → given ≡ told
    → ◌≡◌ {A = PlainTable × Implied} (new, given) (table.imply parts.subs seen top) → MakesIs parts.subs new (ahead parts count) (high parts.agent.cache) told
unfolding made-by
makes-is parts new count top seen given told is_top is_seen is_told is =
    subst (MakesIs parts.subs new (ahead parts count) (high parts.agent.cache)) is_told
    (subst (λ (r : PlainTable × Implied). MakesIs parts.subs r.0 (ahead parts count) (high parts.agent.cache) r.1) (sym (is ∙ imply-ahead parts count top seen is_top is_seen))
    (by (are_too_many parts.subs (ahead parts count)) refl))
  where
    made : Bool → PlainTable × Implied
    made many = made-by parts.subs (ahead parts count) (high parts.agent.cache) many

    by : (many : Bool) → are_too_many parts.subs (ahead parts count) ≡ many → MakesIs parts.subs (made many).0 (ahead parts count) (high parts.agent.cache) (made many).1
    by true many = (refl, many)
    by false few = (refl, few)

-- there aren't too many, and some are new, where there are more names than before
pub makes-more : (parts : Parts) (count top : ℕ) (seen : List Event) → top ≡ high parts.agent.cache → seen ≡ map bare (between parts.queue top (top + count)) → length parts.subs.registry.names < length (table.imply parts.subs seen top).0.registry.names
    → (are_too_many parts.subs (ahead parts count) ≡ false) × (length parts.subs.registry.names < length (names_made parts.subs (ahead parts count)))
unfolding made-by
makes-more parts count top seen is_top is_seen more =
    by (are_too_many parts.subs (ahead parts count)) refl (subst (λ (r : PlainTable × Implied). length parts.subs.registry.names < length r.0.registry.names) (imply-ahead parts count top seen is_top is_seen) more)
  where
    Grows : Bool → Type 0
    Grows many = length parts.subs.registry.names < length (made-by parts.subs (ahead parts count) (high parts.agent.cache) many).0.registry.names

    by : (many : Bool) → are_too_many parts.subs (ahead parts count) ≡ many → Grows (are_too_many parts.subs (ahead parts count)) → (are_too_many parts.subs (ahead parts count) ≡ false) × (length parts.subs.registry.names < length (names_made parts.subs (ahead parts count)))
    by true many more = let none : length parts.subs.registry.names < length parts.subs.registry.names = subst Grows many more in absurd (omega (arith, none))
    by false few more = (few, subst Grows few more)

-- ---- the cache goes on along the log

-- a front that loses its first k elements and goes on with c more
splice : {A : Type 0} (k n c : ℕ) (xs : List A) → k ≤ n → drop k (take n xs) ++ take c (drop n xs) ≡ take ((n - k) + c) (drop k xs)
splice k n c xs le =
    ap (λ m. drop k (take m xs) ++ take c (drop n xs)) {y = k + (n - k)} (omega (arith, le))
    ∙ ap (λ ys. ys ++ take c (drop n xs)) (drop-take k (n - k) xs)
    ∙ ap (λ m. take (n - k) (drop k xs) ++ take c (drop m xs)) {y = k + (n - k)} (omega (arith, le))
    ∙ ap (λ ys. take (n - k) (drop k xs) ++ take c ys) (sym (drop-drop (n - k) k xs))
    ∙ sym (take-add (n - k) c (drop k xs))

-- what a plan to take promises of the parts
abbrev pub CanTake : Parts → ℕ → ℕ → Type 0
CanTake parts drops count = (BLOCK_EVENTS * drops ≤ length parts.agent.cache.events) × (high parts.agent.cache + count ≤ length parts.queue.events)

ahead-length : (parts : Parts) (drops count : ℕ) → CanTake parts drops count → length (ahead parts count) ≡ count
ahead-length parts drops count can =
    length-take (high parts.agent.cache + count - high parts.agent.cache) (drop (high parts.agent.cache) parts.queue.events)
    ∙ ap (λ n. min (high parts.agent.cache + count - high parts.agent.cache) n) (length-drop (high parts.agent.cache) parts.queue.events)
    ∙ omega (arith, can.1)

pub filled-high : (parts : Parts) (drops count : ℕ) → CanTake parts drops count → high (filled parts drops count).agent.cache ≡ high parts.agent.cache + count
filled-high parts drops count can =
    ap (λ n. parts.agent.cache.low + BLOCK_EVENTS * drops + n) (length-append (drop (BLOCK_EVENTS * drops) parts.agent.cache.events) (map bare (ahead parts count)))
    ∙ ap (λ n. parts.agent.cache.low + BLOCK_EVENTS * drops + (n + length (map bare (ahead parts count)))) (length-drop (BLOCK_EVENTS * drops) parts.agent.cache.events)
    ∙ ap (λ n. parts.agent.cache.low + BLOCK_EVENTS * drops + (length parts.agent.cache.events - BLOCK_EVENTS * drops + n)) (length-map (ahead parts count) bare ∙ ahead-length parts drops count can)
    ∙ omega (arith, can.0)

filled-cached : (parts : Parts) (drops count : ℕ) → HasEvents parts → CanTake parts drops count → HasEvents (filled parts drops count)
filled-cached parts drops count has can =
    let k : ℕ = BLOCK_EVENTS * drops in
    let n = length parts.agent.cache.events in
    let low = parts.agent.cache.low in
    let log = parts.queue.events in
    ap (λ events. drop k events ++ map bare (ahead parts count)) (has ∙ ap (λ m. map bare (take m (drop low log))) {y = n} (omega arith))
    ∙ ap (λ events. events ++ map bare (ahead parts count)) (drop-map bare k (take n (drop low log)))
    ∙ sym (map-append bare (drop k (take n (drop low log))) (ahead parts count))
    ∙ ap (map bare)
    (ap (λ m. drop k (take n (drop low log)) ++ take m (drop (low + n) log)) {y = count} (omega arith)
    ∙ ap (λ events. drop k (take n (drop low log)) ++ take count events) (sym (drop-drop n low log))
    ∙ splice k n count (drop low log) can.0
    ∙ ap (λ events. take ((n - k) + count) events) (drop-drop k low log)
    ∙ ap (λ m. take m (drop (low + k) log)) (omega (arith, can.0, filled-high parts drops count can)))

filled-assembled : (parts : Parts) (drops count : ℕ) → IsAssembled parts → CanTake parts drops count → IsAssembled (filled parts drops count)
filled-assembled parts drops count assembled can =
    record { most_subs = assembled.most_subs; most_rules = assembled.most_rules; most_events = assembled.most_events; cached = filled-cached parts drops count assembled.cached can; numbered = assembled.numbered; known = assembled.known }

made-assembled : (parts : Parts) (events : List Event) (position : ℕ) → length parts.subs.registry.names ≡ length parts.subs.states → IsAssembled parts → IsAssembled (with_subs parts (with_made parts.subs events position))
made-assembled parts events position lengths assembled =
    record {
      most_subs = assembled.most_subs;
      most_rules = assembled.most_rules;
      most_events = assembled.most_events;
      cached = assembled.cached;
      numbered = made-below parts.subs.registry.rules parts.subs.registry.names events parts.grains assembled.numbered;
      known = made-known parts.subs.registry.rules position parts.subs.registry.names parts.subs.states events parts.grains (sym lengths) assembled.numbered assembled.known;
    }

-- ---- events are taken

-- the plain partition and its reply, where there are too many subscriptions and where there aren't
abbrev low_after : PlainPartition → ℕ → ℕ
low_after p drops = p.low + BLOCK_EVENTS * drops

subs_after : Parts → ℕ → List (SubName × Subscription)
subs_after parts count = plain.subs_with parts.subs.registry.rules (high parts.agent.cache) (plain_of parts).subs (ahead parts count)

plain_after : Parts → ℕ → ℕ → PlainPartition
plain_after parts drops count = record (plain_of parts) { low = low_after (plain_of parts) drops; high = high parts.agent.cache + count; subs = subs_after parts count }

reply_after : Parts → ℕ → ℕ → Reply
reply_after parts drops count = reply.Pulled (high parts.agent.cache + count - high parts.agent.cache) (token_at (plain_of parts) (low_after (plain_of parts) drops)) (token_at (plain_of parts) (high parts.agent.cache + count))

are_more : (parts : Parts) (count : ℕ) → parts.subs.registry.most_names ≡ parts.limits.subs → length parts.subs.registry.names ≡ length parts.subs.states
    → nat_lt parts.limits.subs (length (subs_after parts count)) ≡ are_too_many parts.subs (ahead parts count)
unfolding subs_after
are_more parts count most lengths =
    ap (λ n. nat_lt n (length (plain.subs_with parts.subs.registry.rules (high parts.agent.cache) (plain_of parts).subs (ahead parts count)))) (sym most)
    ∙ ap (λ n. nat_lt parts.subs.registry.most_names n) (made-length parts.subs.registry.rules (high parts.agent.cache) parts.subs.registry.names parts.subs.states (ahead parts count) lengths)

taken-by : Parts → ℕ → ℕ → Bool → Answer
taken-by parts drops count many = if many then (plain_of parts, reply.TooMany) else (plain_after parts drops count, reply_after parts drops count)

taken-is : (parts : Parts) (drops count : ℕ) → parts.subs.registry.most_names ≡ parts.limits.subs → length parts.subs.registry.names ≡ length parts.subs.states
    → taken (plain_of parts) drops count ≡ taken-by parts drops count (are_too_many parts.subs (ahead parts count))
unfolding plain.pull_events subs_after plain_after reply_after taken-by
taken-is parts drops count most lengths = ap (λ b. taken-by parts drops count b) (are_more parts count most lengths)

pub many-performs : (parts : Parts) (t : PlainTable) (drops count : ℕ) → IsAssembled parts → length parts.subs.registry.names ≡ length parts.subs.states → MakesIs parts.subs t (ahead parts count) (high parts.agent.cache) implied_told.TooMany
    → ◌≡◌ {A = Answer} (plain_of (with_subs parts t), reply.TooMany) (taken (plain_of parts) drops count)
unfolding taken-by
many-performs parts t drops count assembled lengths makes =
    ap {B = Answer} (λ (t : PlainTable). (plain_of (with_subs parts t), reply.TooMany)) makes.0
    ∙ sym (taken-is parts drops count assembled.most_subs lengths ∙ ap (λ b. taken-by parts drops count b) makes.1)

pub many-assembled : (parts : Parts) (t : PlainTable) (count : ℕ) → IsAssembled parts → MakesIs parts.subs t (ahead parts count) (high parts.agent.cache) implied_told.TooMany → IsAssembled (with_subs parts t)
many-assembled parts t count assembled makes = subst (λ (t : PlainTable). IsAssembled (with_subs parts t)) (sym makes.0) assembled

taken-few : (parts : Parts) (drops count : ℕ) → IsAssembled parts → length parts.subs.registry.names ≡ length parts.subs.states → are_too_many parts.subs (ahead parts count) ≡ false
    → taken (plain_of parts) drops count ≡ (plain_after parts drops count, reply_after parts drops count)
unfolding taken-by
taken-few parts drops count assembled lengths few = taken-is parts drops count assembled.most_subs lengths ∙ ap (λ b. taken-by parts drops count b) few

-- the parts with what the rules made, and the cache filled
abbrev parts_after : Parts → ℕ → ℕ → Parts
parts_after parts drops count = filled (with_subs parts (with_made parts.subs (ahead parts count) (high parts.agent.cache))) drops count

after-is : (parts : Parts) (drops count : ℕ) → IsAssembled parts → length parts.subs.registry.names ≡ length parts.subs.states → CanTake parts drops count → plain_of (parts_after parts drops count) ≡ plain_after parts drops count
unfolding plain_after subs_after
after-is parts drops count assembled lengths can =
    ap (λ top. record (plain_of (parts_after parts drops count)) { high = top }) (filled-high parts drops count can)
    ∙ ap (λ subs. record (plain_of (parts_after parts drops count)) { high = high parts.agent.cache + count; subs = subs }) (made-view parts.subs.registry.rules (high parts.agent.cache) parts.subs.registry.names parts.subs.states (ahead parts count) lengths)
    ∙ ap (λ grains. record (plain_of parts) { low = low_after (plain_of parts) drops; high = high parts.agent.cache + count; subs = plain.subs_with parts.subs.registry.rules (high parts.agent.cache) (plain_of parts).subs (ahead parts count); grains = grains })
    (made-grains parts.subs.registry.rules parts.subs.registry.names (ahead parts count) parts.grains assembled.numbered)

pub take-performs : (parts new : Parts) (t : PlainTable) (drops count : ℕ) (told : Reply) → IsAssembled parts → length parts.subs.registry.names ≡ length parts.subs.states → CanTake parts drops count
    → MakesIs parts.subs t (ahead parts count) (high parts.agent.cache) implied_told.Implied → new ≡ filled (with_subs parts t) drops count
    → told ≡ reply.Pulled count (token_at (plain_of new) new.agent.cache.low) (token_at (plain_of new) (high new.agent.cache))
    → ◌≡◌ {A = Answer} (plain_of new, told) (taken (plain_of parts) drops count)
unfolding reply_after
take-performs parts new t drops count told assembled lengths can makes is told_is =
    ap {B = Answer} (λ (r : Reply). (plain_of new, r)) told_is
    ∙ ap {B = Answer} (λ (new : Parts). (plain_of new, reply.Pulled count (token_at (plain_of new) new.agent.cache.low) (token_at (plain_of new) (high new.agent.cache))))
    (is ∙ ap (λ (t : PlainTable). filled (with_subs parts t) drops count) makes.0)
    ∙ ap {B = Answer} (λ top. (plain_of (parts_after parts drops count), reply.Pulled count (token_at (plain_of parts) (low_after (plain_of parts) drops)) (token_at (plain_of parts) top))) (filled-high parts drops count can)
    ∙ ap {B = Answer} (λ n. (plain_of (parts_after parts drops count), reply.Pulled n (token_at (plain_of parts) (low_after (plain_of parts) drops)) (token_at (plain_of parts) (high parts.agent.cache + count))))
    {y = high parts.agent.cache + count - high parts.agent.cache} (omega arith)
    ∙ ap {B = Answer} (λ (p : PlainPartition). (p, reply_after parts drops count)) (after-is parts drops count assembled lengths can)
    ∙ sym (taken-few parts drops count assembled lengths makes.1)

pub take-assembled : (parts new : Parts) (t : PlainTable) (drops count : ℕ) → IsAssembled parts → length parts.subs.registry.names ≡ length parts.subs.states → CanTake parts drops count → MakesIs parts.subs t (ahead parts count) (high parts.agent.cache) implied_told.Implied → new ≡ filled (with_subs parts t) drops count → IsAssembled new
take-assembled parts new t drops count assembled lengths can makes is =
    subst IsAssembled (sym (is ∙ ap (λ (t : PlainTable). filled (with_subs parts t) drops count) makes.0))
    (filled-assembled (with_subs parts (with_made parts.subs (ahead parts count) (high parts.agent.cache))) drops count (made-assembled parts (ahead parts count) (high parts.agent.cache) lengths assembled) can)

pub take-memory : {T E : Type 0} (parts : Parts) (drops count : ℕ) (r : Result T E) → IsAssembled parts → length parts.subs.registry.names ≡ length parts.subs.states → are_too_many parts.subs (ahead parts count) ≡ false
    → OnErr r (takes_memory (taken (plain_of parts) drops count).1 ≡ true)
unfolding reply_after
take-memory parts drops count r assembled lengths few = on-error r (ap (λ (told : Answer). takes_memory told.1) (taken-few parts drops count assembled lengths few))

pub take-makes : {T E : Type 0} (parts : Parts) (drops count : ℕ) (r : Result T E) → IsAssembled parts → length parts.subs.registry.names ≡ length parts.subs.states → are_too_many parts.subs (ahead parts count) ≡ false
    → length parts.subs.registry.names < length (names_made parts.subs (ahead parts count)) → OnErr r (length (plain_of parts).subs < length (taken (plain_of parts) drops count).0.subs)
unfolding plain_after subs_after
take-makes parts drops count r assembled lengths few more =
    let before = records-length parts.subs.registry.names parts.subs.states lengths in
    let after : length (subs_after parts count) ≡ length (names_made parts.subs (ahead parts count)) =
    made-length parts.subs.registry.rules (high parts.agent.cache) parts.subs.registry.names parts.subs.states (ahead parts count) lengths in
    let grown : length (plain_of parts).subs < length (subs_after parts count) = omega (arith, before, after, more) in
    on-error r (subst (λ (told : Answer). length (plain_of parts).subs < length told.0.subs) (sym (taken-few parts drops count assembled lengths few)) grown)
