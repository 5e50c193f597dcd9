-- The laws on a quiet partition, from what holds of a legal history.
use Rattle.stream_laws.proofs.Prelude.{◌≡◌, ℕ, ◌≤◌, Bool, true, false, ◌&&◌, List, [], ◌∷◌, ◌++◌, length, map, filter, Option, Some, None, is_some, unwrap_or, refl, sym, ap, subst, ◌∙◌, arith, if◌then◌else◌, nat_lt, ltb-false, not-false, true≢false, append-nil, or_else-parts, nil_from_nat_lt, none_from_is_some, is_owed, grain_lt, same_grain, same_sub, sub_lt, keys_where, past, value_at, GrainId, SubName, behind, deliverable, is_running, is_waiting, pending_in, quiet_reply, running, waiting, owed_of, grain_at, new_grain, next_position, running_in, sub_at, waiting_in, Grain, PlainPartition, Subscription, Pending, IsQuiet}
use Rattle.stream_ident.specs.declared.ident.SubName.TheVariants as name
use Rattle.stream_model.specs.declared.reply.Pending.TheVariants as pending
use Rattle.stream_laws.specs.Laws.{QuietIsDone, QuietOwesNoOther}
use Rattle.stream_model.specs.Looks.{quiet}
use Rattle.stream_laws.proofs.EventLemmas.{filter-drop-none}
use Rattle.stream_laws.proofs.KeyLists.{least-none}
use Rattle.stream_laws.proofs.Invariant.{Fits, marks_of, running_of, waiting_of}
use Rattle.stream_laws.proofs.LawsOfEvents.{handled-record, owed-bound}
use Rattle.stream_laws.proofs.Legal.{StepsKeep, fits-stands}
use Rattle.stream_laws.proofs.LogLemmas.{next_none}
use Rattle.stream_laws.proofs.MarkLemmas.{IsClear-join, IsClear-within}
use Rattle.stream_laws.proofs.Marks.{IsClear, IsServed}
use Rattle.stream_laws.proofs.Summary.{Summary, owed}

-- where there is no least key of those whose values pass, no value passes
none-passes : {K A : Type 0} (same : K → K → Bool) (passes : A → Bool) (k : K) (v : A) (entries : List (K × A)) → keys_where passes entries ≡ [] → value_at same k entries ≡ Some v → passes v ≡ false
none-passes same passes k v [] none found = absurd (cc)
none-passes {K} {A} same passes k v (entry ∷ entries) none found =
    (elim (passes entry.1) as (λ b. passes entry.1 ≡ b → map (λ (e : K × A). e.0) (if b then entry ∷ filter (λ (e : K × A). passes e.1) entries else filter (λ (e : K × A). passes e.1) entries) ≡ [] → passes v ≡ false) [
      | true ↦ λ yes none. absurd (cc)
      | false ↦ λ no none.
          (elim (same k entry.0) as (λ b. (if b then Some entry.1 else value_at same k entries) ≡ Some v → passes v ≡ false) [
            | true ↦ λ here. let is_v : entry.1 ≡ v = cc in subst (λ x. passes x ≡ false) is_v no
            | false ↦ λ there. none-passes same passes k v entries none there
          ]) found
    ]) refl none

deliverable-none : (o : Option SubName) → deliverable o ≡ None → o ≡ None
deliverable-none None none = refl
deliverable-none (Some s) none = absurd (cc)

waiting-none : (o : Option GrainId) → waiting o ≡ None → o ≡ None
waiting-none None none = refl
waiting-none (Some g) none = absurd (cc)

running-none : (o : Option GrainId) → running o ≡ None → o ≡ None
running-none None none = refl
running-none (Some g) none = absurd (cc)

quiet-pending : (o : Option Pending) → quiet_reply o ≡ IsQuiet → o ≡ None
quiet-pending None is_quiet = refl
quiet-pending (Some why) is_quiet = absurd (cc)

-- nothing is behind, to deliver, waiting or running
record IsDone (p : PlainPartition) : Type 0 where
  seen : length p.log ≤ p.high
  sent : (s : SubName) (r : Subscription) → sub_at p s ≡ Some r → (r.is_open && is_some (next_position p r)) ≡ false
  none_waiting : (g : GrainId) → (grain_at p g).mailbox ≡ []
  none_running : (g : GrainId) → (grain_at p g).running ≡ None

behind-none : (p : PlainPartition) → behind p ≡ None → length p.log ≤ p.high
behind-none p none =
    ltb-false p.high (length p.log)
    ((elim (nat_lt p.high (length p.log)) as (λ b. (if b then Some pending.Behind else None) ≡ None → b ≡ false) [
      | true ↦ λ none. absurd (cc)
      | false ↦ λ none. refl
    ]) none)

-- of a grain that isn't there: nothing waits, nothing runs
none-at-grain : (p : PlainPartition) (g : GrainId) (passes : Grain → Bool) → passes new_grain ≡ false → keys_where passes p.grains ≡ [] → passes (grain_at p g) ≡ false
none-at-grain p g passes new none =
    (elim (value_at same_grain g p.grains) as (λ o. value_at same_grain g p.grains ≡ o → passes (unwrap_or o new_grain) ≡ false) [
      | None ↦ λ away. new
      | Some st ↦ λ found. none-passes same_grain passes g st p.grains none found
    ]) refl

quiet-done : (p : PlainPartition) → quiet p ≡ IsQuiet → IsDone p
unfolding quiet
quiet-done p is_quiet =
    let parts = or_else-parts _ _ (quiet-pending (pending_in p) is_quiet) in
    let later = or_else-parts _ _ parts.1 in
    let last = or_else-parts _ _ later.1 in
    let no_sub = least-none sub_lt _ (deliverable-none _ later.0) in
    let no_wait = least-none grain_lt _ (waiting-none _ last.0) in
    let no_run = least-none grain_lt _ (running-none _ last.1) in
    record {
      seen = behind-none p parts.0;
      sent = λ s r found. none-passes same_sub (λ r. r.is_open && is_some (next_position p r)) s r p.subs no_sub found;
      none_waiting = λ g. nil_from_nat_lt (grain_at p g).mailbox (none-at-grain p g is_waiting refl no_wait);
      none_running = λ g. none_from_is_some (grain_at p g).running (none-at-grain p g is_running refl no_run);
    }

next-none : (o : Option ℕ) (is_open : Bool) → (is_open && is_some o) ≡ false → is_open ≡ true → o ≡ None
next-none None is_open not_next open_s = refl
next-none (Some q) true not_next open_s = absurd (true≢false not_next)
next-none (Some q) false not_next open_s = absurd (true≢false (sym open_s))

-- in a partition that is done nothing behind what an open subscription has handled is marked
clear-done : (t : Summary) (p : PlainPartition) (s : SubName) (r : Subscription) → Fits t p → IsDone p → sub_at p s ≡ Some r → r.is_open ≡ true → IsClear (marks_of r.stream r.start p.log) (past r.handled) (length p.log)
clear-done t p s r fits done found is_open =
    let seen = done.seen in
    let fit = fits.subs s r found in
    let on_way : running_of p s r ++ waiting_of p s r ≡ [] =
    ap (λ run. running_in s run ++ waiting_of p s r) (done.none_running r.grain)
    ∙ ap (λ deliveries. waiting_in s deliveries) (done.none_waiting r.grain) in
    let served : IsServed (marks_of r.stream r.start p.log) r.handled [] r.resume r.cursor p.low =
    subst (λ positions. IsServed (marks_of r.stream r.start p.log) r.handled positions r.resume r.cursor p.low) on_way (fit.served is_open) in
    let unseen : IsClear (marks_of r.stream r.start p.log) r.cursor p.high =
    next_none r.stream r.start p.log r.cursor p.high fits.log.high_end (next-none (next_position p r) r.is_open (done.sent s r found) is_open) in
    IsClear-within (marks_of r.stream r.start p.log) (past r.handled) (past r.handled) (length p.log) p.high
    (IsClear-join (marks_of r.stream r.start p.log) (past r.handled) r.cursor p.high served.sent unseen)
    (omega arith)
    seen

-- nor is a name without a record owed anything
unmade-done : (t : Summary) (p : PlainPartition) (s : SubName) → Fits t p → IsDone p → sub_at p s ≡ None → owed t s ≡ []
unmade-done t p s fits done none =
    (elim (t.binding s) as (λ o. t.binding s ≡ o → owed t s ≡ []) [
      | None ↦ λ unbound. ap (λ o. owed_of t.events o) unbound
      | Some b ↦ λ bound.
          let seen = done.seen in
          let unseen : IsClear (marks_of b.stream b.start p.log) 0 (length p.log) =
          IsClear-within (marks_of b.stream b.start p.log) 0 0 (length p.log) p.high ((fits.unmade s none).unseen b bound) (omega arith) seen in
          owed-bound t p s b fits.log bound ∙ filter-drop-none (λ event. is_owed b.stream b.start event) p.log 0 unseen
    ]) refl

owed-done : (t : Summary) (p : PlainPartition) (s : SubName) → Fits t p → IsDone p → t.closed s ≡ false → t.handled s ≡ owed t s
owed-done t p s fits done is_open =
    (elim (sub_at p s) as (λ o. sub_at p s ≡ o → t.handled s ≡ owed t s) [
      | None ↦ λ none. (fits.unmade s none).handled ∙ sym (unmade-done t p s fits done none)
      | Some r ↦ λ found.
          let fit = fits.subs s r found in
          let clear = clear-done t p s r fits done found (not-false r.is_open (sym fit.closed ∙ is_open)) in
          sym (append-nil (t.handled s))
          ∙ (ap (λ rest. t.handled s ++ rest) (sym (filter-drop-none (λ event. is_owed r.stream r.start event) p.log (past r.handled) clear))
          ∙ handled-record t p s r fits.log fit)
    ]) refl

pub quiet_is_done-from : StepsKeep → QuietIsDone
quiet_is_done-from keep blocks limits history p stands is_quiet s is_open =
    owed-done _ p s (fits-stands keep blocks limits history p stands) (quiet-done p is_quiet) is_open

pub quiet_owes_no_other-from : StepsKeep → QuietOwesNoOther
quiet_owes_no_other-from keep blocks limits history p stands is_quiet kind stream none =
    unmade-done _ p (name.Implicit kind stream) (fits-stands keep blocks limits history p stands) (quiet-done p is_quiet) none
