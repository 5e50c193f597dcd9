-- From positions of a log to its events: those at the marked positions are the events that pass.
use Rattle.stream_laws.proofs.Prelude.{◌≡◌, ℕ, zero, suc, ◌+◌, ◌-◌, ◌<◌, ◌≤◌, Bool, true, false, List, [], ◌∷◌, ◌++◌, length, map, get_or, take, drop, filter, refl, sym, ap, ◌∙◌, arith, if◌then◌else◌, inl, inr, cases_lt, cond-false, cond-true, append-nil, drop_all, drop_at, get_or-map, get_or_past, length-map, map-append, take-append-drop, take_all, take_at, filter-append, AllByRecursion, past, past_from, Event, events_at, no_event}
use Rattle.std.proofs.Math.Seq.{take-suc, drop-cons}
use Rattle.stream_laws.proofs.MarkLemmas.{marked-within}
use Rattle.stream_laws.proofs.Marks.{IsClear, IsInTurn, IsNext, marked_below}

-- a position within the log is marked where its event passes
pub mark-at : (passes : Event → Bool) (log : List Event) (n : ℕ) → n < length log → get_or (map passes log) n false ≡ passes (get_or log n no_event)
mark-at passes log n within = get_or-map passes log n no_event false within

pub events_at-append : (log : List Event) (positions others : List ℕ) → events_at log (positions ++ others) ≡ events_at log positions ++ events_at log others
events_at-append log positions others = map-append (λ position. get_or log position no_event) positions others

pub length-events_at : (log : List Event) (positions : List ℕ) → length (events_at log positions) ≡ length positions
length-events_at log positions = length-map positions (λ position. get_or log position no_event)

-- one event that passes or not
filter-one : (passes : Event → Bool) (event : Event) (b : Bool) → passes event ≡ b → (if b then event ∷ [] else []) ≡ filter passes (event ∷ [])
filter-one passes event b is_b = ap (λ test. if test then event ∷ [] else []) (sym is_b)

marked-more : (log : List Event) (n : ℕ) (positions : List ℕ) (b : Bool) → events_at log (if b then positions ++ n ∷ [] else positions) ≡ events_at log positions ++ (if b then get_or log n no_event ∷ [] else [])
marked-more log n positions true = events_at-append log positions (n ∷ [])
marked-more log n positions false = sym (append-nil (events_at log positions))

-- the events at the marked positions below n are those of the first n that pass
pub events_at-marked : (passes : Event → Bool) (log : List Event) (n : ℕ) → events_at log (marked_below (map passes log) n) ≡ filter passes (take n log)
events_at-marked passes log zero = refl
events_at-marked passes log (suc n) =
    elim (cases_lt n (length log)) [
      | inl within ↦
          marked-more log n (marked_below (map passes log) n) (get_or (map passes log) n false)
          ∙ (ap (λ front. front ++ (if get_or (map passes log) n false then get_or log n no_event ∷ [] else [])) (events_at-marked passes log n)
          ∙ (ap (λ back. filter passes (take n log) ++ back) (filter-one passes (get_or log n no_event) _ (sym (mark-at passes log n within)))
          ∙ (sym (filter-append passes (take n log) (get_or log n no_event ∷ []))
          ∙ ap (λ front. filter passes front) (sym (take-suc log n no_event within)))))
      | inr beyond ↦
          let none : get_or (map passes log) n false ≡ false = get_or_past (map passes log) n false (omega (arith, length-map log passes)) in
          ap (λ positions. events_at log positions) (cond-false (get_or (map passes log) n false) (marked_below (map passes log) n ++ n ∷ []) (marked_below (map passes log) n) none)
          ∙ (events_at-marked passes log n
          ∙ ap (λ front. filter passes front) (take_all n log beyond ∙ sym (take_all (suc n) log (omega arith))))
    ]

-- where nothing is marked from a on for n positions, the events from a on that pass are those from there on
filter-drop-clear_for : (passes : Event → Bool) (log : List Event) (a n : ℕ) → IsClear (map passes log) a (a + n) → filter passes (drop a log) ≡ filter passes (drop (a + n) log)
filter-drop-clear_for passes log a zero clear = ap (λ m. filter passes (drop m log)) (omega arith)
filter-drop-clear_for passes log a (suc n) clear =
    elim (cases_lt a (length log)) [
      | inl within ↦
          let no : passes (get_or log a no_event) ≡ false = sym (mark-at passes log a within) ∙ clear a (omega arith) (omega arith) in
          ap (λ events. filter passes events) (drop-cons log a no_event within)
          ∙ (cond-false (passes (get_or log a no_event)) (get_or log a no_event ∷ filter passes (drop (suc a) log)) (filter passes (drop (suc a) log)) no
          ∙ (filter-drop-clear_for passes log (suc a) n (λ q from to. clear q (omega arith) (omega arith))
          ∙ ap (λ m. filter passes (drop m log)) (omega arith)))
      | inr beyond ↦
          ap (λ events. filter passes events) (drop_all a log beyond ∙ sym (drop_all (a + suc n) log (omega arith)))
    ]

pub filter-drop-clear : (passes : Event → Bool) (log : List Event) (a b : ℕ) → a ≤ b → IsClear (map passes log) a b → filter passes (drop a log) ≡ filter passes (drop b log)
filter-drop-clear passes log a b le clear =
    let end : a + (b - a) ≡ b = omega arith in
    filter-drop-clear_for passes log a (b - a) (λ q from to. clear q from (omega arith)) ∙ ap (λ m. filter passes (drop m log)) end

-- where nothing is marked from a on, nothing from a on passes
pub filter-drop-none : (passes : Event → Bool) (log : List Event) (a : ℕ) → IsClear (map passes log) a (length log) → filter passes (drop a log) ≡ []
filter-drop-none passes log a clear =
    elim (cases_lt a (length log)) [
      | inl within ↦
          filter-drop-clear passes log a (length log) (omega arith) clear
          ∙ ap (λ events. filter passes events) (drop_all (length log) log (omega arith))
      | inr beyond ↦ ap (λ events. filter passes events) (drop_all a log beyond)
    ]

-- what passes from a on begins with the events at the next marked positions
pub events_at-next : (passes : Event → Bool) (log : List Event) (a : ℕ) (positions : List ℕ) → IsNext (map passes log) a positions → filter passes (drop a log) ≡ events_at log positions ++ filter passes (drop (past_from a positions) log)
events_at-next passes log a [] next = refl
events_at-next passes log a (position ∷ positions) next =
    let within : position < length log = omega (arith, marked-within (map passes log) position next.2, length-map log passes) in
    let yes : passes (get_or log position no_event) ≡ true = sym (mark-at passes log position within) ∙ next.2 in
    filter-drop-clear passes log a position next.0 next.1
    ∙ (ap (λ events. filter passes events) (drop-cons log position no_event within)
    ∙ (cond-true (passes (get_or log position no_event)) (get_or log position no_event ∷ filter passes (drop (suc position) log)) (filter passes (drop (suc position) log)) yes
    ∙ ap (λ events. get_or log position no_event ∷ events) (events_at-next passes log (suc position) positions next.3)))

-- the events that pass are those at the first marked positions and what passes from there on
pub owed-split : (passes : Event → Bool) (log : List Event) (handled : List ℕ) → handled ≡ marked_below (map passes log) (past handled) → events_at log handled ++ filter passes (drop (past handled) log) ≡ filter passes log
owed-split passes log handled first =
    ap (λ events. events ++ filter passes (drop (past handled) log))
    (ap (λ positions. events_at log positions) first ∙ events_at-marked passes log (past handled))
    ∙ (sym (filter-append passes (take (past handled) log) (drop (past handled) log))
    ∙ ap (λ events. filter passes events) (take-append-drop (past handled) log))

-- what passes behind the first marked positions
pub owed-rest : (passes : Event → Bool) (log : List Event) (handled : List ℕ) → handled ≡ marked_below (map passes log) (past handled) → drop (length (events_at log handled)) (filter passes log) ≡ filter passes (drop (past handled) log)
owed-rest passes log handled first =
    ap (λ events. drop (length (events_at log handled)) events) (sym (owed-split passes log handled first))
    ∙ drop_at (events_at log handled) (filter passes (drop (past handled) log)) (length (events_at log handled)) refl

-- a turn has the events that are owed next
pub owed-next : (passes : Event → Bool) (log : List Event) (handled running : List ℕ) → IsInTurn (map passes log) handled running → events_at log running ≡ take (length (events_at log running)) (drop (length (events_at log handled)) (filter passes log))
owed-next passes log handled running in_turn =
    sym (
    ap (λ events. take (length (events_at log running)) events)
    (owed-rest passes log handled in_turn.first ∙ events_at-next passes log (past handled) running in_turn.next)
    ∙ take_at (events_at log running) (filter passes (drop (past_from (past handled) running) log)) (length (events_at log running)) refl
    )

-- each event of a log's end that passes has a marked position there
pub All-owed : (passes : Event → Bool) (Q : Event → Type 0) (log : List Event) (a : ℕ) → ((q : ℕ) → a ≤ q → q < length log → passes (get_or log q no_event) ≡ true → Q (get_or log q no_event)) → AllByRecursion Q (filter passes (drop a log))
All-owed passes Q [] zero each = tt
All-owed passes Q [] (suc a) each = tt
All-owed passes Q (event ∷ log) zero each =
    All-owed_with (passes event) (each 0 (omega arith) (omega arith)) (All-owed passes Q log zero (λ q from within. each (suc q) (omega arith) (omega arith)))
  where
    All-owed_with : (b : Bool) → (b ≡ true → Q event) → AllByRecursion Q (filter passes log) → AllByRecursion Q (if b then event ∷ filter passes log else filter passes log)
    All-owed_with true here rest = (here refl, rest)
    All-owed_with false here rest = rest
All-owed passes Q (event ∷ log) (suc a) each = All-owed passes Q log a (λ q from within. each (suc q) (omega arith) (omega arith))
