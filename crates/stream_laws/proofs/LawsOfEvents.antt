-- The laws on what is published, owed and handled, from what holds of a legal history.
use Rattle.stream_laws.proofs.Prelude.{◌≡◌, ℕ, ◌<◌, ◌≤◌, Bool, false, ◌++◌, length, drop, map, filter, get_or, Option, Some, None, refl, sym, ap, subst, ◌∙◌, arith, inl, inr, cases_eq, cases_lt, not-false, true≢false, get_or-map, AllByRecursion, batch_token, is_owed, token_lt, IsPrefixOf, past, Event, SubName, Binding, owed_of, no_event, sub_at, PlainPartition, Subscription}
use Rattle.stream_laws.specs.Laws.{HandledInOrder, LogIsPublished, OwedIsKept, RecordsAgree}
use Rattle.stream_laws.proofs.EventLemmas.{All-owed, mark-at, owed-rest, owed-split}
use Rattle.stream_laws.proofs.Invariant.{Fits, IsUnmade, LogFits, SubFits, running_of, waiting_of}
use Rattle.stream_laws.proofs.Legal.{StepsKeep, fits-stands}
use Rattle.stream_laws.proofs.LogLemmas.{token_lt-false, token_lt-same}
use Rattle.stream_laws.proofs.Marks.{IsClear}
use Rattle.stream_laws.proofs.Summary.{Summary, owed}

pub log_is_published-from : StepsKeep → LogIsPublished
log_is_published-from keep blocks limits history p stands = (fits-stands keep blocks limits history p stands).log.log

pub records_agree-from : StepsKeep → RecordsAgree
records_agree-from keep blocks limits history p stands s r found =
    let fit = (fits-stands keep blocks limits history p stands).subs s r found in
    (sym fit.handled, fit.binding)

-- the record of a name
abbrev pub RecordFits : Summary → PlainPartition → SubName → Subscription → Type 0
RecordFits t p s r = SubFits t p.log p.low s r (running_of p s r) (waiting_of p s r)

-- what a name that is bound so is owed
pub owed-bound : (t : Summary) (p : PlainPartition) (s : SubName) (b : Binding) → LogFits t p → t.binding s ≡ Some b → owed t s ≡ filter (λ event. is_owed b.stream b.start event) p.log
owed-bound t p s b log bound =
    ap (λ o. owed_of t.events o) bound ∙ ap (λ events. filter (λ event. is_owed b.stream b.start event) events) (sym log.log)

-- what a subscription is owed and hasn't handled
unhandled-record : (t : Summary) (p : PlainPartition) (s : SubName) (r : Subscription) → LogFits t p → RecordFits t p s r → drop (length (t.handled s)) (owed t s) ≡ filter (λ event. is_owed r.stream r.start event) (drop (past r.handled) p.log)
unhandled-record t p s r log fit =
    ap (λ events. drop (length (t.handled s)) events) (owed-bound t p s _ log fit.binding)
    ∙ (ap (λ events. drop (length events) (filter (λ event. is_owed r.stream r.start event) p.log)) fit.handled
    ∙ owed-rest (λ event. is_owed r.stream r.start event) p.log r.handled fit.in_turn.first)

-- what is handled and the rest are what is owed
pub handled-record : (t : Summary) (p : PlainPartition) (s : SubName) (r : Subscription) → LogFits t p → RecordFits t p s r → t.handled s ++ filter (λ event. is_owed r.stream r.start event) (drop (past r.handled) p.log) ≡ owed t s
handled-record t p s r log fit =
    ap (λ events. events ++ filter (λ event. is_owed r.stream r.start event) (drop (past r.handled) p.log)) fit.handled
    ∙ (owed-split (λ event. is_owed r.stream r.start event) p.log r.handled fit.in_turn.first
    ∙ sym (owed-bound t p s _ log fit.binding))

pub handled_prefix : (t : Summary) (p : PlainPartition) (s : SubName) → Fits t p → IsPrefixOf (t.handled s) (owed t s)
handled_prefix t p s fits =
    (elim (sub_at p s) as (λ o. sub_at p s ≡ o → IsPrefixOf (t.handled s) (owed t s)) [
      | None ↦ λ none. (owed t s, ap (λ events. events ++ owed t s) (fits.unmade s none).handled)
      | Some r ↦ λ found. (filter (λ event. is_owed r.stream r.start event) (drop (past r.handled) p.log), handled-record t p s r fits.log (fits.subs s r found))
    ]) refl

pub handled_in_order-from : StepsKeep → HandledInOrder
handled_in_order-from keep blocks limits history p stands s = handled_prefix _ p s (fits-stands keep blocks limits history p stands)

-- no event from low on has a token below the low one
not-below-low : (t : Summary) (p : PlainPartition) (q : ℕ) → LogFits t p → p.low ≤ q → q < length p.log → token_lt (get_or p.log q no_event).token t.low ≡ false
not-below-low t p q log from within =
    let low : t.low ≡ (get_or p.log p.low no_event).token = log.low ∙ get_or-map (λ event. event.token) p.log p.low no_event (batch_token p.batches) (omega arith) in
    subst (λ token. token_lt (get_or p.log q no_event).token token ≡ false) (sym low)
    (elim (cases_eq p.low q) [
      | inl same ↦ subst (λ n. token_lt (get_or p.log q no_event).token (get_or p.log n no_event).token ≡ false) (sym same) (token_lt-same (get_or p.log q no_event).token)
      | inr apart ↦ token_lt-false (get_or p.log p.low no_event).token (get_or p.log q no_event).token (log.rising p.low q (omega arith) within)
    ])

-- nor has any that passes from a on, where none is marked from there up to a position past low
kept-from : (t : Summary) (p : PlainPartition) (passes : Event → Bool) (a b : ℕ) → LogFits t p → IsClear (map passes p.log) a b → p.low ≤ b → AllByRecursion (λ event. token_lt event.token t.low ≡ false) (filter passes (drop a p.log))
kept-from t p passes a b log clear low =
    All-owed passes (λ event. token_lt event.token t.low ≡ false) p.log a
    (λ q from within yes.
    elim (cases_lt q b) [
      | inl below ↦ absurd (true≢false (sym yes ∙ (sym (mark-at passes p.log q within) ∙ clear q from below)))
      | inr past_b ↦ not-below-low t p q log (omega arith) within
    ])

-- of a name without a record
kept-unmade : (t : Summary) (p : PlainPartition) (s : SubName) (o : Option Binding) → LogFits t p → IsUnmade t p.log p.high s → t.binding s ≡ o → AllByRecursion (λ event. token_lt event.token t.low ≡ false) (owed_of p.log o)
kept-unmade t p s None log unmade bound = tt
kept-unmade t p s (Some b) log unmade bound =
    kept-from t p (λ event. is_owed b.stream b.start event) 0 p.high log (unmade.unseen b bound) log.low_high

owed_kept : (t : Summary) (p : PlainPartition) (s : SubName) → Fits t p → t.closed s ≡ false → AllByRecursion (λ event. token_lt event.token t.low ≡ false) (drop (length (t.handled s)) (owed t s))
owed_kept t p s fits open_s =
    (elim (sub_at p s) as (λ o. sub_at p s ≡ o → AllByRecursion (λ event. token_lt event.token t.low ≡ false) (drop (length (t.handled s)) (owed t s))) [
      | None ↦ λ none.
          let unmade = fits.unmade s none in
          subst (λ events. AllByRecursion (λ event. token_lt event.token t.low ≡ false) (drop (length events) (owed t s))) (sym unmade.handled)
          (subst (λ events. AllByRecursion (λ event. token_lt event.token t.low ≡ false) (owed_of events (t.binding s))) fits.log.log
          (kept-unmade t p s (t.binding s) fits.log unmade refl))
      | Some r ↦ λ found.
          let fit = fits.subs s r found in
          let served = fit.served (not-false r.is_open (sym fit.closed ∙ open_s)) in
          subst (λ events. AllByRecursion (λ event. token_lt event.token t.low ≡ false) events) (sym (unhandled-record t p s r fits.log fit))
          (kept-from t p (λ event. is_owed r.stream r.start event) (past r.handled) r.resume fits.log served.safe served.low_resume)
    ]) refl

pub owed_is_kept-from : StepsKeep → OwedIsKept
owed_is_kept-from keep blocks limits history p stands s open_s = owed_kept _ p s (fits-stands keep blocks limits history p stands) open_s
