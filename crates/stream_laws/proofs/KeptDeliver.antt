-- Deliver keeps the invariant.
use Rattle.stream_laws.proofs.Prelude.{◌≡◌, ◌∙◌, ap, sym, subst, refl, ℕ, suc, ◌≤◌, max, nat_lt, nat_le, true, false, ◌&&◌, ◌||◌, not, [], ◌∷◌, ◌++◌, length, get_or, Option, Some, None, if◌then◌else◌, append_assoc, arith, cond_both, not-false, or_parts, true≢false, All-append, nil_from_nat_lt, SubName, MAILBOX_PLACES, grain_at, is_outstanding, is_spent, is_unacknowledged, next_position, sub_at, waiting_in, caught_up, is_stale, woken, PlainPartition, Subscription}
use Rattle.stream_model.specs.declared.op.Op.TheVariants as op
use Rattle.stream_model.specs.Pulling.{deliver, deliver_position, deliver_to}
use Rattle.stream_laws.proofs.Deliveries.{waiting-push, waiting-push_other}
use Rattle.stream_laws.proofs.FitsOne.{Fits-both, Fits-sub, IsToldOf-refl, with_both}
use Rattle.stream_laws.proofs.Invariant.{Fits, GrainsFit, IsBoxed, Kept, SubFits, marks_of, running_of, waiting_of}
use Rattle.stream_laws.proofs.LogLemmas.{length-marks_of, next_found, next_none}
use Rattle.stream_laws.proofs.Marks.{IsClear, IsServed}
use Rattle.stream_laws.proofs.OneChanged.{FitsHere, apart-others, IsCarried, IsRunning-carried, IsTurnAlike-refl}
use Rattle.stream_laws.proofs.ServedLemmas.{served-idle, served-seen, served-sent}
use Rattle.stream_laws.proofs.Summary.{Summary}

-- with nothing outstanding nothing is on its way
none-on_way : (p : PlainPartition) (s : SubName) (r : Subscription) → is_outstanding p s r ≡ false → running_of p s r ++ waiting_of p s r ≡ []
none-on_way p s r idle =
    let waiting = or_parts (nat_lt 0 (length (waiting_of p s r))) (nat_lt 0 (length (running_of p s r)) || is_unacknowledged r) idle in
    let running = or_parts (nat_lt 0 (length (running_of p s r))) (is_unacknowledged r) waiting.1 in
    let no_waiting = nil_from_nat_lt (waiting_of p s r) waiting.0 in
    let no_running = nil_from_nat_lt (running_of p s r) running.0 in
    ap (λ front. front ++ waiting_of p s r) no_running ∙ no_waiting

SubFits-caught_up : (t : Summary) (p : PlainPartition) (s : SubName) (r : Subscription)
    → IsClear (marks_of r.stream r.start p.log) r.cursor p.high → p.high ≤ length p.log
    → SubFits t p.log p.low s r (running_of p s r) (waiting_of p s r)
    → SubFits t p.log p.low s (caught_up p s r) (running_of p s (caught_up p s r)) (waiting_of p s (caught_up p s r))
SubFits-caught_up t p s r clear within fits =
    record {
      binding = fits.binding;
      handled = fits.handled;
      closed = fits.closed;
      note = fits.note;
      in_turn = fits.in_turn;
      served = λ is_open. served_now is_open;
    }
  where
    seen : r.is_open ≡ true → IsServed (marks_of r.stream r.start p.log) r.handled (running_of p s r ++ waiting_of p s r) r.resume (max r.cursor p.high) p.low
    seen is_open =
        served-seen (marks_of r.stream r.start p.log) r.handled (running_of p s r ++ waiting_of p s r) r.resume r.cursor p.low p.high clear
        (omega (arith, length-marks_of r.stream r.start p.log)) (fits.served is_open)

    served_now : r.is_open ≡ true
        → IsServed (marks_of r.stream r.start p.log) r.handled (running_of p s r ++ waiting_of p s r) (if is_outstanding p s r then r.resume else max r.cursor p.high) (max r.cursor p.high) p.low
    served_now is_open =
        cond_both (is_outstanding p s r) r.resume (max r.cursor p.high)
        (λ resume. IsServed (marks_of r.stream r.start p.log) r.handled (running_of p s r ++ waiting_of p s r) resume (max r.cursor p.high) p.low)
        (λ _. seen is_open)
        (λ idle.
        let none = none-on_way p s r idle in
        subst (λ way. IsServed (marks_of r.stream r.start p.log) r.handled way (max r.cursor p.high) (max r.cursor p.high) p.low) (sym none)
        (served-idle (marks_of r.stream r.start p.log) r.handled r.resume (max r.cursor p.high) p.low
        (subst (λ way. IsServed (marks_of r.stream r.start p.log) r.handled way r.resume (max r.cursor p.high) p.low) none (seen is_open))))

SubFits-sent : (t : Summary) (p : PlainPartition) (s : SubName) (r : Subscription) (position : ℕ)
    → r.cursor ≤ position → get_or (marks_of r.stream r.start p.log) position false ≡ true → IsClear (marks_of r.stream r.start p.log) r.cursor position
    → SubFits t p.log p.low s r (running_of p s r) (waiting_of p s r)
    → SubFits t p.log p.low s (record r { cursor = suc position }) (running_of p s r) (waiting_in s (woken (grain_at p r.grain) s position).mailbox)
SubFits-sent t p s r position le marked clear fits =
    record {
      binding = fits.binding;
      handled = fits.handled;
      closed = fits.closed;
      note = fits.note;
      in_turn = fits.in_turn;
      served = λ is_open.
          subst (λ way. IsServed (marks_of r.stream r.start p.log) r.handled way r.resume (suc position) p.low)
          (append_assoc (running_of p s r) (waiting_of p s r) (position ∷ [])
          ∙ ap (λ waiting. running_of p s r ++ waiting) (sym (waiting-push s position (grain_at p r.grain).mailbox)))
          (served-sent (marks_of r.stream r.start p.log) r.handled (running_of p s r ++ waiting_of p s r) r.resume r.cursor p.low position clear marked le (fits.served is_open));
    }

FitsHere-woken : (t : Summary) (p p' : PlainPartition) (s : SubName) (r : Subscription) (position : ℕ)
    → sub_at p s ≡ Some r → r.is_open ≡ true → IsCarried p p' → p'.log ≡ p.log → p.turns ≤ p'.turns → GrainsFit t p
    → FitsHere t t p p' r.grain (woken (grain_at p r.grain) s position)
FitsHere-woken t p p' s r position found is_open carried is_log more grains =
    let g = r.grain in
    let fits = grains.each g in
    record {
      boxed = All-append (IsBoxed p g) (grain_at p g).mailbox (record { sub = s; position = position } ∷ []) fits.boxed
          (record { record_of = r; found = found; is_open = is_open; grain = refl }, tt);
      running = λ run is_run. IsRunning-carried t t p p' g run carried is_log more (IsTurnAlike-refl t run.turn) (fits.running run is_run);
      idle = λ asleep. absurd (true≢false asleep);
      alike = λ h other run is_run. IsTurnAlike-refl t run.turn;
      apart = λ run is_run h different other is_other equal. apart-others t p g h run other grains is_run different is_other equal;
    }

kept-deliver_position : (t : Summary) (p : PlainPartition) (generation : ℕ) (s : SubName) (r : Subscription) (next : Option ℕ)
    → sub_at p s ≡ Some r → r.is_open ≡ true → next_position p r ≡ next
    → Fits t p → Kept t (op.Deliver generation s) (deliver_position p s r (grain_at p r.grain) next)
unfolding deliver_position
kept-deliver_position t p generation s r None found is_open is_next fits =
    let clear = next_none r.stream r.start p.log r.cursor p.high fits.log.high_end is_next in
    (Fits-sub t p s r (caught_up p s r) found refl refl (SubFits-caught_up t p s r clear fits.log.high_end (fits.subs s r found)) fits, tt)
kept-deliver_position t p generation s r (Some position) found is_open is_next fits =
    let st = grain_at p r.grain in
    let next = next_found r.stream r.start p.log r.cursor p.high position fits.log.high_end is_next in
    let rises = if st.active then p.rises else suc p.rises in
    let r' : Subscription = record r { cursor = suc position } in
    cond_both (nat_le MAILBOX_PLACES (length st.mailbox)) _ _ (Kept t (op.Deliver generation s)) (λ _. (fits, tt))
    (λ _. cond_both (not st.active && is_spent p) _ _ (Kept t (op.Deliver generation s)) (λ _. (fits, tt))
    (λ _. (
      Fits-both t t p s r r' r.grain (woken st s position) rises p.turns found refl refl refl (omega arith) (IsToldOf-refl t s)
          (λ x other. refl)
          (λ x other. waiting-push_other x s position st.mailbox other)
          (λ carried. FitsHere-woken t p (with_both p s r' r.grain (woken st s position) rises p.turns) s r position found is_open carried refl (omega arith) fits.grains)
          (record { unused = fits.numbers.unused; uncommitted = fits.numbers.uncommitted; begun = fits.numbers.begun; committed = fits.numbers.committed })
          (SubFits-sent t p s r position next.0 next.2 next.3 (fits.subs s r found))
          fits,
      tt,
    )))

kept-deliver_to : (t : Summary) (p : PlainPartition) (generation : ℕ) (s : SubName) (found : Option Subscription)
    → sub_at p s ≡ found → Fits t p → Kept t (op.Deliver generation s) (deliver_to p s found)
unfolding deliver_to
kept-deliver_to t p generation s None is_found fits = (fits, tt)
kept-deliver_to t p generation s (Some r) is_found fits =
    cond_both (not r.is_open) _ _ (Kept t (op.Deliver generation s)) (λ _. (fits, tt))
    (λ is_open. kept-deliver_position t p generation s r (next_position p r) is_found (not-false r.is_open is_open) refl fits)

pub kept-deliver : (t : Summary) (p : PlainPartition) (generation : ℕ) (s : SubName) → Fits t p → Kept t (op.Deliver generation s) (deliver p generation s)
unfolding deliver
kept-deliver t p generation s fits =
    cond_both (is_stale p generation) _ _ (Kept t (op.Deliver generation s)) (λ _. (fits, tt))
    (λ _. kept-deliver_to t p generation s (sub_at p s) refl fits)
