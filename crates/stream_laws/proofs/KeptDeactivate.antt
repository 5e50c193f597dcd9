-- A deactivation keeps what holds: what was on its way to the grain is lost, and the cursors of its
-- subscriptions go back.
use Rattle.stream_laws.proofs.Prelude.{◌≡◌, true, false, not, [], Some, None, unwrap_or, refl, sym, ap, subst, ◌∙◌, arith, if◌then◌else◌, and_from, cond_both, grain_equality, same_grain-equal, same_grain-refl, same_grain, GrainId, SubName, with_value-at, with_value-other, grain_at, new_grain, running_in, sub_at, waiting_in, deactivated, is_open_of, Deactivate, Grain, PlainPartition, Subscription}
use Rattle.stream_model.specs.Turns.{deactivate, deactivate_in}
use Rattle.stream_laws.proofs.EachChanged.{IsEachRewound, NamesFit-each, NumbersFit-each, UnmadeFit-each, each-carried, each-was, rewound_if, served-lost, served-rewound_where}
use Rattle.stream_laws.proofs.Invariant.{Fits, GrainsFit, Kept, SubFits, SubsFit, marks_of, running_of, waiting_of}
use Rattle.stream_laws.proofs.Marks.{IsServed}
use Rattle.stream_laws.proofs.OneChanged.{GrainsFit-one, IsGrainChanged, IsTurnAlike-refl}
use Rattle.stream_laws.proofs.Summary.{Summary}

-- the grain out of memory
abbrev asleep : Grain → Grain
asleep st = record st { active = false; mailbox = []; running = None }

module _ (t : Summary) (p : PlainPartition) (g : GrainId) (st : Grain) (fits : Fits t p) where
  grain-asleep : IsGrainChanged p (deactivated p g st) g (asleep st)
  grain-asleep =
      record {
        here = ap (λ o. unwrap_or o new_grain) (with_value-at same_grain grain_equality g (asleep st) p.grains);
        others = λ h other. ap (λ o. unwrap_or o new_grain) (with_value-other same_grain grain_equality h g (asleep st) p.grains other);
      }

  rewound-asleep : IsEachRewound (is_open_of g) p (deactivated p g st)
  rewound-asleep = record { subs = refl; log = refl; batches = refl; explicit = refl; rules = refl; turns = refl }

  -- a record of that grain
  sub-lost : (s : SubName) (r : Subscription) → sub_at p s ≡ Some r → same_grain g r.grain ≡ true → SubFits t p.log p.low s (rewound_if (is_open_of g) r) [] []
  sub-lost s r found same =
      let fit = fits.subs s r found in
      record {
        binding = fit.binding;
        handled = fit.handled;
        closed = fit.closed;
        note = fit.note;
        in_turn = record { first = fit.in_turn.first; next = tt };
        served = λ is_open.
            subst (λ b. IsServed (marks_of r.stream r.start p.log) r.handled [] r.resume (if b then r.resume else r.cursor) p.low) (sym (and_from (same_grain g r.grain) r.is_open same is_open))
            (served-lost (marks_of r.stream r.start p.log) r.handled _ r.resume r.cursor p.low (fit.served is_open));
      }

  -- a record of another
  sub-stays : (s : SubName) (r : Subscription) → sub_at p s ≡ Some r → SubFits t p.log p.low s (rewound_if (is_open_of g) r) (running_of p s r) (waiting_of p s r)
  sub-stays s r found =
      let fit = fits.subs s r found in
      record {
        binding = fit.binding;
        handled = fit.handled;
        closed = fit.closed;
        note = fit.note;
        in_turn = fit.in_turn;
        served = λ is_open. served-rewound_where (is_open_of g r) (marks_of r.stream r.start p.log) r.handled _ r.resume r.cursor p.low (fit.served is_open);
      }

  sub-asleep : (s : SubName) (r : Subscription) → sub_at p s ≡ Some r → SubFits t p.log p.low s (rewound_if (is_open_of g) r) (running_of (deactivated p g st) s r) (waiting_of (deactivated p g st) s r)
  sub-asleep s r found =
      (elim (same_grain r.grain g) as (λ b. same_grain r.grain g ≡ b → SubFits t p.log p.low s (rewound_if (is_open_of g) r) (running_of (deactivated p g st) s r) (waiting_of (deactivated p g st) s r)) [
        | true ↦ λ here.
            let same = same_grain-equal r.grain g here in
            let turned : same_grain g r.grain ≡ true = subst (λ h. same_grain h r.grain ≡ true) same (same_grain-refl r.grain) in
            let is_asleep : grain_at (deactivated p g st) r.grain ≡ asleep st = ap (λ h. grain_at (deactivated p g st) h) same ∙ grain-asleep.here in
            subst (λ (now : Grain). SubFits t p.log p.low s (rewound_if (is_open_of g) r) (running_in s now.running) (waiting_in s now.mailbox)) (sym is_asleep) (sub-lost s r found turned)
        | false ↦ λ other.
            subst (λ (now : Grain). SubFits t p.log p.low s (rewound_if (is_open_of g) r) (running_in s now.running) (waiting_in s now.mailbox)) (sym (grain-asleep.others r.grain other)) (sub-stays s r found)
      ]) refl

  subs-asleep : SubsFit t (deactivated p g st)
  subs-asleep s now found =
      let was = each-was (is_open_of g) p (deactivated p g st) rewound-asleep s now found in
      subst (λ r. SubFits t p.log p.low s r (running_of (deactivated p g st) s r) (waiting_of (deactivated p g st) s r)) was.2 (sub-asleep s was.0 was.1)

  grains-asleep : GrainsFit t (deactivated p g st)
  grains-asleep =
      GrainsFit-one t t p (deactivated p g st) g (asleep st) grain-asleep
      (each-carried (is_open_of g) p (deactivated p g st) rewound-asleep) refl (omega arith)
      (record {
        boxed = tt;
        running = λ run is_run. absurd (cc);
        idle = λ inactive. (refl, refl);
        alike = λ h other run is_run. IsTurnAlike-refl t run.turn;
        apart = λ run is_run h other another is_another same. cc;
      })
      fits.grains

  fits-asleep : Fits t (deactivated p g st)
  fits-asleep =
      record {
        log = record {
          log = fits.log.log;
          batches = fits.log.batches;
          low = fits.log.low;
          low_high = fits.log.low_high;
          high_end = fits.log.high_end;
          rising = fits.log.rising;
          ended = fits.log.ended;
        };
        subs = subs-asleep;
        unmade = UnmadeFit-each (is_open_of g) p (deactivated p g st) rewound-asleep t t.low (omega arith) fits.unmade;
        names = NamesFit-each (is_open_of g) p (deactivated p g st) rewound-asleep t t.low fits.names;
        grains = grains-asleep;
        numbers = NumbersFit-each (is_open_of g) p (deactivated p g st) rewound-asleep t t.low fits.numbers;
      }

kept-deactivate_in : (t : Summary) (p : PlainPartition) (g : GrainId) (st : Grain) → Fits t p → Kept t (Deactivate g) (deactivate_in p g st)
unfolding deactivate_in
kept-deactivate_in t p g st fits =
    cond_both (not st.active) _ _ (Kept t (Deactivate g)) (λ inactive. (fits, tt)) (λ active. (fits-asleep t p g st fits, tt))

pub kept-deactivate : (t : Summary) (p : PlainPartition) (g : GrainId) → Fits t p → Kept t (Deactivate g) (deactivate p g)
unfolding deactivate
kept-deactivate t p g fits = kept-deactivate_in t p g (grain_at p g) fits
