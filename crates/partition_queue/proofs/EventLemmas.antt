-- The tokens of a log, and the events that are read of it.
use Rattle.partition_queue.proofs.Prelude.{◌≡◌, ◌∙◌, ap, sym, refl, ℕ, suc, ◌+◌, ◌-◌, ◌<◌, ◌≤◌, inl, inr, true, List, ◌++◌, length, get_or, map, drop, take, length-append, arith, get_or_append_left, get_or-append_right, get_or-drop, get_or-map, get_or-take, length-drop, length-map, length-take, take-map, take-take, events_of, no_event, StreamId, BATCH_EVENTS}
use Rattle.std.proofs.lemmas.Bool.{cases_lt, le-ltb, ne_eqb}
use Rattle.std.proofs.lemmas.Bool.Decides.{nat_tests}
use Rattle.stream_ident.specs.declared.event.Event.{Event}
use Rattle.stream_ident.specs.declared.token.Token.{Token}
use Rattle.stream_ident.specs.Token.{token_lt}
use Rattle.stream_ident.proofs.EventLemmas.{length-events_of, events_of-token}
use Rattle.queue_mapper.specs.Place.{bare}
use Rattle.partition_queue.specs.declared.appended.Appended.{Appended}
use Rattle.partition_queue.specs.declared.appended.Appended.TheVariants.{Accepted}
use Rattle.partition_queue.specs.Queue.{PlainQueue, IsLog, TokensRise, append, between, event_at}

before_by_seq : (a b : Token) → a.seq < b.seq → token_lt a b ≡ true
before_by_seq a b less = grind (arith, nat_tests)

before_by_idx : (a b : Token) → a.seq ≡ b.seq → a.idx < b.idx → token_lt a b ≡ true
before_by_idx a b same less = grind (arith, nat_tests)

-- the token at a place of a log that has the events of a batch at its end
token_old : (xs ys : List Event) (i : ℕ) → i < length xs → (get_or (xs ++ ys) i no_event).token ≡ (get_or xs i no_event).token
token_old xs ys i old = ap (λ event. event.token) (get_or_append_left xs ys no_event i old)

token_new : (xs : List Event) (stream : StreamId) (seq : ℕ) (payloads : List (List ℕ)) (i : ℕ) → length xs ≤ i → i - length xs < length payloads → (get_or (xs ++ events_of stream seq 0 payloads) i no_event).token ≡ record { seq = seq; idx = 0 + (i - length xs) }
token_new xs stream seq payloads i new within =
    ap (λ event. event.token) (get_or-append_right xs (events_of stream seq 0 payloads) (length xs) i no_event refl new) ∙ events_of-token stream seq 0 payloads (i - length xs) within

-- two tokens of the longer log, and the number of one
rising_more : (q : PlainQueue) (stream : StreamId) (payloads : List (List ℕ)) (i j : ℕ) → TokensRise q → i < j → j < length q.events + length payloads → token_lt (get_or (q.events ++ events_of stream q.batches 0 payloads) i no_event).token (get_or (q.events ++ events_of stream q.batches 0 payloads) j no_event).token ≡ true
rising_more q stream payloads i j tokens less within =
    elim (cases_lt j (length q.events)) [
      | inl old ↦ rw (token_old q.events (events_of stream q.batches 0 payloads) i (omega arith), token_old q.events (events_of stream q.batches 0 payloads) j old) (tokens.rising i j less old)
      | inr new ↦ rw (token_new q.events stream q.batches payloads j new (omega arith)) (
          elim (cases_lt i (length q.events)) [
            | inl old ↦ rw (token_old q.events (events_of stream q.batches 0 payloads) i old) (before_by_seq _ _ (tokens.accepted i old))
            | inr too ↦ rw (token_new q.events stream q.batches payloads i too (omega arith)) (before_by_idx (record { seq = q.batches; idx = 0 + (i - length q.events) }) (record { seq = q.batches; idx = 0 + (j - length q.events) }) refl (omega arith))
          ]
          )
    ]

accepted_more : (q : PlainQueue) (stream : StreamId) (payloads : List (List ℕ)) (i : ℕ) → TokensRise q → i < length q.events + length payloads → (get_or (q.events ++ events_of stream q.batches 0 payloads) i no_event).token.seq < q.batches + 1
accepted_more q stream payloads i tokens within =
    elim (cases_lt i (length q.events)) [
      | inl old ↦ rw (token_old q.events (events_of stream q.batches 0 payloads) i old) (let was = tokens.accepted i old in omega arith)
      | inr new ↦ rw (token_new q.events stream q.batches payloads i new (omega arith)) (omega arith)
    ]

-- a log with one more batch is a log
pub log_with : (q : PlainQueue) (stream : StreamId) (payloads : List (List ℕ)) (events : List Event) → events ≡ q.events ++ events_of stream q.batches 0 payloads → IsLog q → 0 < length payloads → length payloads ≤ q.limit - length q.events → IsLog (record { events = events; batches = q.batches + 1; limit = q.limit })
log_with q stream payloads events is log some fits =
    let more = length-append q.events (events_of stream q.batches 0 payloads) in
    let many = length-events_of stream q.batches 0 payloads in
    let within = log.within in
    let batches = log.batches in
    rw is (
    record {
      within = omega arith;
      limit = log.limit;
      batches = omega arith;
      tokens =
          record {
            rising = λ i j less end. rising_more q stream payloads i j log.tokens less (omega arith);
            accepted = λ i end. accepted_more q stream payloads i log.tokens (omega arith);
          };
    }
    )

-- a batch that fits is accepted
pub accepts : (q : PlainQueue) (stream : StreamId) (payloads : List (List ℕ)) → 0 < length payloads → length payloads ≤ BATCH_EVENTS → length q.events + length payloads ≤ q.limit
    → ◌≡◌ {A = PlainQueue × Appended} (record { events = q.events ++ events_of stream q.batches 0 payloads; batches = q.batches + 1; limit = q.limit }, Accepted q.batches) (append q stream payloads)
accepts q stream payloads some few fits =
    let next : q.batches + 1 ≡ suc q.batches = omega arith in
    rw (ne_eqb (length payloads) 0 (λ e. omega arith), le-ltb BATCH_EVENTS (length payloads) few, le-ltb q.limit (length q.events + length payloads) fits, next) refl

-- ---- the events between two positions

pub length-between : (q : PlainQueue) (from to : ℕ) → to ≤ length q.events → length (between q from to) ≡ to - from
length-between q from to within = omega (arith, length-take (to - from) (drop from q.events), length-drop from q.events)

-- the events of a part, without their payloads
pub length-bare : (q : PlainQueue) (from to : ℕ) → to ≤ length q.events → length (map bare (between q from to)) ≡ to - from
length-bare q from to within = length-map (between q from to) bare ∙ length-between q from to within

pub between_at : (q : PlainQueue) (from to index : ℕ) → to ≤ length q.events → index < length (map bare (between q from to)) → get_or (map bare (between q from to)) index no_event ≡ bare (event_at q (from + index))
between_at q from to index within inside =
    get_or-map bare (between q from to) index no_event no_event (omega (arith, inside, length-map (between q from to) bare))
    ∙ ap bare (get_or-take (to - from) (drop from q.events) index no_event (omega (arith, inside, length-bare q from to within)) ∙ get_or-drop from q.events index no_event)

-- the first events of a part
pub between_first : (q : PlainQueue) (from to count : ℕ) → to ≤ length q.events → count ≤ length (map bare (between q from to)) → map bare (between q from (from + count)) ≡ take count (map bare (between q from to))
between_first q from to count within inside =
    ap (λ n. map bare (take n (drop from q.events))) {x = from + count - from} {y = count} (omega arith)
    ∙ ap (map bare) (sym (take-take count (to - from) (drop from q.events) (omega (arith, inside, length-bare q from to within))))
    ∙ sym (take-map bare count (between q from to))
