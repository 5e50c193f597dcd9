-- Unsubscribe keeps what holds of a history and its partition.
use Rattle.stream_laws.proofs.Prelude.{◌≡◌, ◌∙◌, ap, sym, subst, refl, ◌||◌, not, Bool, true, false, List, [], ◌∷◌, length, map, filter, Option, Some, None, unwrap_or, if◌then◌else◌, cond_both, false≢true, not-true, or_right, AllByRecursion, All-weaken, grain_equality, same_grain-equal, same_grain-refl, same_sub-equal, same_sub-refl, sub_equality, same_grain, same_sub, value_at, GrainId, SubName, changed_option, changed_value-at, changed_value-other, with_value-at, with_value-other, grain_at, new_grain, running_in, sub_at, waiting_in, unsubscribed, without, Delivery, Grain, PlainPartition, RunningTurn, Subscription}
use Rattle.std.proofs.Math.Bool.{or-false}
use Rattle.stream_ident.specs.declared.ident.SubName.TheVariants as name
use Rattle.stream_model.specs.declared.op.Op.TheVariants as op
use Rattle.stream_model.specs.declared.reply.Reply.TheVariants as reply
use Rattle.stream_model.specs.Publishing.{unsubscribe, unsubscribe_from}
use Rattle.stream_laws.proofs.Invariant.{Fits, GrainFits, GrainsFit, IsBoxed, IsRunning, Kept, LogFits, NumbersFit, SubFits, marks_of, running_of, waiting_of}
use Rattle.stream_laws.proofs.Marks.{IsInTurn}
use Rattle.stream_laws.proofs.OneChanged.{IsGrainChanged, IsOneChanged, IsSeenAlike-grain, NamesFit-one, SubsFit-one, UnmadeFit-one}
use Rattle.stream_laws.proofs.Summary.{Summary, after}

-- ---- a mailbox without the deliveries of a subscription

-- the others wait as before
waiting-without : (s x : SubName) (deliveries : List Delivery) → same_sub x s ≡ false → waiting_in x (filter (λ d. not (same_sub s d.sub)) deliveries) ≡ waiting_in x deliveries
waiting-without s x [] other = refl
waiting-without s x (d ∷ deliveries) other =
    by (same_sub s d.sub) refl (waiting-without s x deliveries other)
  where
    left : List Delivery
    left = filter (λ (d : Delivery). not (same_sub s d.sub)) deliveries

    more : (b : Bool) → waiting_in x left ≡ waiting_in x deliveries → map (λ (d : Delivery). d.position) (if b then d ∷ filter (λ (d : Delivery). same_sub x d.sub) left else filter (λ (d : Delivery). same_sub x d.sub) left) ≡ map (λ (d : Delivery). d.position) (if b then d ∷ filter (λ (d : Delivery). same_sub x d.sub) deliveries else filter (λ (d : Delivery). same_sub x d.sub) deliveries)
    more true rest = ap (λ positions. d.position ∷ positions) rest
    more false rest = rest

    by : (b : Bool) → same_sub s d.sub ≡ b → waiting_in x left ≡ waiting_in x deliveries → waiting_in x (if not b then d ∷ left else left) ≡ waiting_in x (d ∷ deliveries)
    by true own rest =
        let apart : same_sub x d.sub ≡ false = ap (same_sub x) (sym (same_sub-equal s d.sub own)) ∙ other in
        rest ∙ ap (λ b. map (λ (d : Delivery). d.position) (if b then d ∷ filter (λ (d : Delivery). same_sub x d.sub) deliveries else filter (λ (d : Delivery). same_sub x d.sub) deliveries)) (sym apart)
    by false kept rest =
        more (same_sub x d.sub) rest

-- what is left is of others
All-without : (P Q : Delivery → Type 0) (s : SubName) → ((d : Delivery) → same_sub s d.sub ≡ false → P d → Q d) → (deliveries : List Delivery) → AllByRecursion P deliveries → AllByRecursion Q (filter (λ d. not (same_sub s d.sub)) deliveries)
All-without P Q s kept [] all = tt
All-without P Q s kept (d ∷ deliveries) all =
    cond_both (not (same_sub s d.sub)) _ _ (AllByRecursion Q)
    (λ other. (kept d (not-true (same_sub s d.sub) other) all.0, All-without P Q s kept deliveries all.1))
    (λ _. All-without P Q s kept deliveries all.1)

-- a change that leaves a new grain as it is
changed_grain : (change : Grain → Grain) (o : Option Grain) → change new_grain ≡ new_grain → unwrap_or (changed_option change o) new_grain ≡ change (unwrap_or o new_grain)
changed_grain change None new = sym new
changed_grain change (Some st) new = refl

module _ (t : Summary) (p : PlainPartition) (s : SubName) (r : Subscription) (found : sub_at p s ≡ Some r) (fits : Fits t p) where
  abbrev closed : Subscription
  closed = record r { is_open = false }

  abbrev next : PlainPartition
  next = unsubscribed p s r

  abbrev told : Summary
  told = after t (op.Unsubscribe s) (reply.Unsubscribed (length r.handled))

  found-closed : sub_at next s ≡ Some closed
  found-closed = with_value-at same_sub sub_equality s closed p.subs

  found-other : (x : SubName) → same_sub x s ≡ false → sub_at next x ≡ sub_at p x
  found-other x other = with_value-other same_sub sub_equality x s closed p.subs other

  grain-own : grain_at next r.grain ≡ without s (grain_at p r.grain)
  grain-own =
      ap (λ o. unwrap_or o new_grain) (changed_value-at same_grain r.grain (without s) p.grains)
      ∙ changed_grain (without s) (value_at same_grain r.grain p.grains) refl

  grain-other : (g : GrainId) → same_grain g r.grain ≡ false → grain_at next g ≡ grain_at p g
  grain-other g other = ap (λ o. unwrap_or o new_grain) (changed_value-other same_grain grain_equality g r.grain (without s) p.grains other)

  grain_changed : IsGrainChanged p next r.grain (without s (grain_at p r.grain))
  grain_changed = record { here = grain-own; others = grain-other }

  one_changed : IsOneChanged t told p next s closed
  one_changed =
      record {
        log = refl;
        low = refl;
        high = refl;
        found = found-closed;
        told = λ x other. record { binding = refl; handled = refl; closed = ap (λ b. t.closed x || b) other ∙ or-false (t.closed x); note = refl };
        seen = λ x other. IsSeenAlike-grain p next r.grain (without s (grain_at p r.grain)) x grain_changed (found-other x other) refl (waiting-without s x (grain_at p r.grain).mailbox other);
      }

  log-closed : LogFits told next
  log-closed =
      let old = fits.log in
      record { log = old.log; batches = old.batches; low = old.low; low_high = old.low_high; high_end = old.high_end; rising = old.rising; ended = old.ended }

  closed-fits : SubFits told p.log p.low s closed (running_of next s closed) (waiting_of next s closed)
  closed-fits =
      let old = fits.subs s r found in
      let same : running_of next s closed ≡ running_of p s r = ap (λ (st : Grain). running_in s st.running) grain-own in
      record {
        binding = old.binding;
        handled = old.handled;
        closed = or_right (t.closed s) (same_sub s s) (same_sub-refl s);
        note = old.note;
        in_turn = subst (λ running. IsInTurn (marks_of r.stream r.start p.log) r.handled running) (sym same) old.in_turn;
        served = λ is_open. absurd (false≢true is_open);
      }

  boxed-other : (g : GrainId) (d : Delivery) → same_sub s d.sub ≡ false → IsBoxed p g d → IsBoxed next g d
  boxed-other g d other old =
      record { record_of = old.record_of; found = found-other d.sub (apart (same_sub d.sub s) refl) ∙ old.found; is_open = old.is_open; grain = old.grain }
    where
      apart : (b : Bool) → same_sub d.sub s ≡ b → same_sub d.sub s ≡ false
      apart false is = is
      apart true is = absurd (false≢true (sym other ∙ ap (same_sub s) (same_sub-equal d.sub s is) ∙ same_sub-refl s))

  -- elsewhere nothing of it waits
  boxed-elsewhere : (g : GrainId) → same_grain g r.grain ≡ false → (d : Delivery) → IsBoxed p g d → IsBoxed next g d
  boxed-elsewhere g other d old = boxed-other g d (apart (same_sub s d.sub) refl) old
    where
      apart : (b : Bool) → same_sub s d.sub ≡ b → same_sub s d.sub ≡ false
      apart false is = is
      apart true is =
          let found_d : sub_at p s ≡ Some old.record_of = ap (sub_at p) (same_sub-equal s d.sub is) ∙ old.found in
          let same : r ≡ old.record_of = cc in
          let here : r.grain ≡ g = ap (λ (r : Subscription). r.grain) same ∙ old.grain in
          absurd (false≢true (sym other ∙ ap (same_grain g) here ∙ same_grain-refl g))

  -- the subscription of a turn is still there, of the same grain
  now-running : (g : GrainId) (run : RunningTurn) (old : IsRunning t p g run) (b : Bool) → same_sub run.sub s ≡ b → (now : Subscription) × (sub_at next run.sub ≡ Some now) × (now.grain ≡ g)
  now-running g run old false other = (old.record_of, found-other run.sub other ∙ old.found, old.grain)
  now-running g run old true same =
      let is_s = same_sub-equal run.sub s same in
      let found_s : sub_at p s ≡ Some old.record_of = ap (sub_at p) (sym is_s) ∙ old.found in
      let is_r : r ≡ old.record_of = cc in
      (closed, ap (sub_at next) is_s ∙ found-closed, ap (λ (r : Subscription). r.grain) is_r ∙ old.grain)

  running-closed : (g : GrainId) (run : RunningTurn) → IsRunning t p g run → IsRunning told next g run
  running-closed g run old =
      let now = now-running g run old (same_sub run.sub s) refl in
      record {
        record_of = now.0;
        found = now.1;
        grain = now.2;
        events = old.events;
        begun = old.begun;
        committed = old.committed;
        number = old.number;
        some = old.some;
        bound = old.bound;
      }

  -- what a grain has to show
  abbrev FitsAs : GrainId → Grain → Type 0
  FitsAs g st =
      AllByRecursion (IsBoxed next g) st.mailbox
      × ((run : RunningTurn) → st.running ≡ Some run → IsRunning told next g run)
      × (st.active ≡ false → (st.mailbox ≡ []) × (st.running ≡ None))

  as-own : (g : GrainId) → FitsAs g (without s (grain_at p g))
  as-own g =
      let old = fits.grains.each g in (
        All-without (IsBoxed p g) (IsBoxed next g) s (boxed-other g) (grain_at p g).mailbox old.boxed,
        λ run is. running-closed g run (old.running run is),
        λ inactive.
            let none = old.idle inactive in
            (ap (filter (λ (d : Delivery). not (same_sub s d.sub))) none.0, none.1),
      )

  as-other : (g : GrainId) → same_grain g r.grain ≡ false → FitsAs g (grain_at p g)
  as-other g other =
      let old = fits.grains.each g in (
        All-weaken (IsBoxed p g) (IsBoxed next g) (boxed-elsewhere g other) (grain_at p g).mailbox old.boxed,
        λ run is. running-closed g run (old.running run is),
        old.idle,
      )

  grain-fits : (g : GrainId) → GrainFits told next g
  grain-fits g =
      let shown = by (same_grain g r.grain) refl in
      record { boxed = shown.0; running = shown.1; idle = shown.2 }
    where
      by : (b : Bool) → same_grain g r.grain ≡ b → FitsAs g (grain_at next g)
      by true same =
          let is = same_grain-equal g r.grain same in
          let here : grain_at next g ≡ without s (grain_at p g) = subst (λ g. grain_at next g ≡ without s (grain_at p g)) (sym is) grain-own in
          subst (FitsAs g) (sym here) (as-own g)
      by false other = subst (FitsAs g) (sym (grain-other g other)) (as-other g other)

  -- each turn that runs ran before
  ran : (g : GrainId) → (grain_at next g).running ≡ (grain_at p g).running
  ran g = by (same_grain g r.grain) refl
    where
      by : (b : Bool) → same_grain g r.grain ≡ b → (grain_at next g).running ≡ (grain_at p g).running
      by true same =
          subst (λ g. (grain_at next g).running ≡ (grain_at p g).running) (sym (same_grain-equal g r.grain same)) (ap (λ (st : Grain). st.running) grain-own)
      by false other = ap (λ (st : Grain). st.running) (grain-other g other)

  grains-closed : GrainsFit told next
  grains-closed =
      record {
        each = grain-fits;
        apart = λ g h run other is_run is_other. fits.grains.apart g h run other (sym (ran g) ∙ is_run) (sym (ran h) ∙ is_other);
      }

  numbers-closed : NumbersFit told next
  numbers-closed = record { unused = fits.numbers.unused; uncommitted = fits.numbers.uncommitted; begun = fits.numbers.begun; committed = fits.numbers.committed }

  fits-closed : Fits told next
  fits-closed =
      record {
        log = log-closed;
        subs = SubsFit-one t told p next s closed one_changed closed-fits fits.subs;
        unmade = UnmadeFit-one t told p next s closed one_changed fits.unmade;
        names = NamesFit-one t told p next s r closed one_changed found refl refl refl fits.names;
        grains = grains-closed;
        numbers = numbers-closed;
      }

kept-unsubscribe_from : (t : Summary) (p : PlainPartition) (s : SubName) (o : Option Subscription) → sub_at p s ≡ o → Fits t p → Kept t (op.Unsubscribe s) (unsubscribe_from p s o)
unfolding unsubscribe_from
kept-unsubscribe_from t p (name.Explicit n) None none fits = (fits, tt)
kept-unsubscribe_from t p (name.Implicit kind stream) None none fits = (fits, tt)
kept-unsubscribe_from t p (name.Implicit kind stream) (Some r) found fits = (fits, tt)
kept-unsubscribe_from t p (name.Explicit n) (Some r) found fits =
    cond_both (not r.is_open) _ _ (Kept t (op.Unsubscribe (name.Explicit n))) (λ _. (fits, tt)) (λ _. (fits-closed t p (name.Explicit n) r found fits, tt))

pub kept-unsubscribe : (t : Summary) (p : PlainPartition) (s : SubName) → Fits t p → Kept t (op.Unsubscribe s) (unsubscribe p s)
unfolding unsubscribe
kept-unsubscribe t p s fits = kept-unsubscribe_from t p s (sub_at p s) refl fits
