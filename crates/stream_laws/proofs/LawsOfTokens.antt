-- The laws on tokens, from what holds of a legal history.
use Rattle.stream_laws.proofs.Prelude.{◌≡◌, ◌≢◌, true, List, ◌++◌, get_or, AllPairs, Option, Some, None, sym, ap, subst, ◌∙◌, arith, true≢false, get_or_append_left, get_or_default, length-append, AllPairs-filter, is_owed, token_lt, IsPrefixOf, Event, SubName, Binding, owed_of, no_event, PlainPartition}
use Rattle.std.proofs.Math.Path.{subst₂}
use Rattle.stream_laws.specs.Laws.{NoneTwice, TokensRise, TokensRiseAlong}
use Rattle.stream_laws.proofs.Invariant.{Fits, LogFits}
use Rattle.stream_laws.proofs.LawsOfEvents.{handled_prefix}
use Rattle.stream_laws.proofs.Legal.{StepsKeep, fits-stands}
use Rattle.stream_laws.proofs.LogLemmas.{token_lt-same}
use Rattle.stream_laws.proofs.Summary.{Summary, owed}

-- the later event has the greater token
abbrev IsLater : Event → Event → Type 0
IsLater earlier later = token_lt earlier.token later.token ≡ true

-- what holds of each two elements holds of each two of a front
AllPairs-front : {X : Type 0} (R : X → X → Type 0) (xs rest : List X) → AllPairs R (xs ++ rest) → AllPairs R xs
AllPairs-front R xs rest all i j d less within =
    subst₂ R (get_or_append_left xs rest d i (omega arith)) (get_or_append_left xs rest d j within)
    (all i j d less (omega (arith, length-append xs rest)))

-- where tokens rise, they differ
rise-along : (events : List Event) → AllPairs IsLater events → TokensRiseAlong events
rise-along events rising = (rising, λ i j d less within same. differ (get_or events i d) (get_or events j d) (rising i j d less within) same)
  where
    differ : (earlier later : Event) → IsLater earlier later → earlier.token ≢ later.token
    differ earlier later is_later same =
        true≢false (sym is_later ∙ (ap (λ token. token_lt token later.token) same ∙ token_lt-same later.token))

-- along the log
rising-log : (t : Summary) (p : PlainPartition) → LogFits t p → AllPairs IsLater t.events
rising-log t p log =
    subst (AllPairs IsLater) log.log
    (λ i j d less within.
    subst₂ IsLater (get_or_default p.log i no_event d (omega arith)) (get_or_default p.log j no_event d within) (log.rising i j less within))

-- along what a name is owed
rising-owed : (events : List Event) (o : Option Binding) → AllPairs IsLater events → AllPairs IsLater (owed_of events o)
rising-owed events None rising = λ i j d less within. absurd (omega arith)
rising-owed events (Some b) rising = AllPairs-filter IsLater (λ event. is_owed b.stream b.start event) events rising

-- along a front of it
rising-front : (xs ys : List Event) → IsPrefixOf xs ys → AllPairs IsLater ys → AllPairs IsLater xs
rising-front xs ys prefix rising = AllPairs-front IsLater xs prefix.0 (subst (AllPairs IsLater) (sym prefix.1) rising)

pub owed-once : (t : Summary) (p : PlainPartition) (s : SubName) → Fits t p → TokensRiseAlong (owed t s)
owed-once t p s fits = rise-along (owed t s) (rising-owed t.events (t.binding s) (rising-log t p fits.log))

pub tokens_rise-from : StepsKeep → TokensRise
tokens_rise-from keep blocks limits history p stands =
    let fits = fits-stands keep blocks limits history p stands in rise-along _ (rising-log _ p fits.log)

pub none_twice-from : StepsKeep → NoneTwice
none_twice-from keep blocks limits history p stands s =
    let fits = fits-stands keep blocks limits history p stands in
    let once = owed-once _ p s fits in
    (once, rise-along _ (rising-front _ _ (handled_prefix _ p s fits) once.0))
