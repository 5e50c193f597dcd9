-- Events on the log: their marks, their tokens, and stretches of it.
use Rattle.stream_laws.proofs.Prelude.{◌≡◌, ◌∙◌, ap, sym, ℕ, ◌+◌, ◌-◌, ◌<◌, ◌≤◌, not, true, false, List, length, get_or, drop, Some, None, ⊎_elim, arith, cases_lt, and_right, get_or_past, get_or-take, get_or-drop, length-map, length-drop, is_owed, same_stream, token_lt, first_at, Event, StreamId, Token, between, no_event}
use Rattle.std.proofs.lemmas.Bool.Decides.{nat_tests}
use Rattle.std.proofs.lemmas.List.{length-take}
use Rattle.stream_ident.proofs.FirstLemmas.{first_at-None, first_at-Some}
use Rattle.stream_laws.proofs.EventLemmas.{mark-at}
use Rattle.stream_laws.proofs.Invariant.{marks_of}
use Rattle.stream_laws.proofs.Marks.{IsClear}

-- ---- tokens

-- a token before another is before all that aren't before that
pub token_lt-before : (a b c : Token) → token_lt a b ≡ true → token_lt c b ≡ false → token_lt a c ≡ true
token_lt-before a b c ab cb = grind (arith, nat_tests)

pub token_lt-false : (a b : Token) → token_lt a b ≡ true → token_lt b a ≡ false
token_lt-false a b ab = grind (arith, nat_tests)

pub token_lt-same : (a : Token) → token_lt a a ≡ false
token_lt-same a = grind (arith, nat_tests)

-- ---- marks

pub length-marks_of : (stream : StreamId) (start : Token) (log : List Event) → length (marks_of stream start log) ≡ length log
length-marks_of stream start log = length-map log (λ event. is_owed stream start event)

-- an event before the start isn't owed
pub owed-before : (stream : StreamId) (start : Token) (event : Event) → token_lt event.token start ≡ true → is_owed stream start event ≡ false
owed-before stream start event before = and_right (same_stream stream event.stream) (not (token_lt event.token start)) (ap not before)

-- where all events of a stretch are before the start, none is marked
pub clear-before : (stream : StreamId) (start : Token) (log : List Event) (a b : ℕ) → ((q : ℕ) → a ≤ q → q < b → q < length log → token_lt (get_or log q no_event).token start ≡ true) → IsClear (marks_of stream start log) a b
clear-before stream start log a b before q from to =
    ⊎_elim
    (λ (within : q < length log). mark-at (λ event. is_owed stream start event) log q within ∙ owed-before stream start (get_or log q no_event) (before q from to within))
    (λ (beyond : length log ≤ q). get_or_past (marks_of stream start log) q false (omega (arith, length-marks_of stream start log)))
    (cases_lt q (length log))

-- ---- stretches of the log

pub length-between : (log : List Event) (from to : ℕ) → to ≤ length log → length (between log from to) ≡ to - from
length-between log from to within = omega (arith, length-take (to - from) (drop from log), length-drop from log)

pub between-at : (log : List Event) (from to k : ℕ) → from + k < to → get_or (between log from to) k no_event ≡ get_or log (from + k) no_event
between-at log from to k below = get_or-take (to - from) (drop from log) k no_event (omega arith) ∙ get_or-drop from log k no_event

-- the least position at or past from that is found below to: none from there on is marked before it
pub next_found : (stream : StreamId) (start : Token) (log : List Event) (from to position : ℕ) → to ≤ length log → first_at (λ event. is_owed stream start event) from (between log from to) ≡ Some position → (from ≤ position) × (position < to) × (get_or (marks_of stream start log) position false ≡ true) × IsClear (marks_of stream start log) from position
next_found stream start log from to position within e =
    let found = first_at-Some (λ event. is_owed stream start event) from (between log from to) no_event position e in
    let is : position ≡ from + found.place = found.at in
    let some : found.place < length (between log from to) = found.within in
    let size = length-between log from to within in
    let marked : get_or (marks_of stream start log) (from + found.place) false ≡ true =
    mark-at (λ event. is_owed stream start event) log (from + found.place) (omega arith) ∙ ap (λ event. is_owed stream start event) (sym (between-at log from to found.place (omega arith))) ∙ found.is
    in (
      omega arith,
      omega arith,
      ap (λ q. get_or (marks_of stream start log) q false) is ∙ marked,
      λ q at_least below.
          let same : from + (q - from) ≡ q = omega arith in
          ap (λ q. get_or (marks_of stream start log) q false) (sym same)
          ∙ mark-at (λ event. is_owed stream start event) log (from + (q - from)) (omega arith) ∙ ap (λ event. is_owed stream start event) (sym (between-at log from to (q - from) (omega arith))) ∙ found.before (q - from) (omega arith),
    )

-- where none is found, none is marked
pub next_none : (stream : StreamId) (start : Token) (log : List Event) (from to : ℕ) → to ≤ length log → first_at (λ event. is_owed stream start event) from (between log from to) ≡ None → IsClear (marks_of stream start log) from to
next_none stream start log from to within e q at_least below =
    let size = length-between log from to within in
    let none = first_at-None (λ event. is_owed stream start event) from (between log from to) no_event e (q - from) (omega arith) in
    let same : from + (q - from) ≡ q = omega arith in
    ap (λ q. get_or (marks_of stream start log) q false) (sym same)
    ∙ mark-at (λ event. is_owed stream start event) log (from + (q - from)) (omega arith) ∙ ap (λ event. is_owed stream start event) (sym (between-at log from to (q - from) (omega arith))) ∙ none
