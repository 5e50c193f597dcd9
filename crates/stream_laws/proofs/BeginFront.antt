-- The front delivery of an idle grain: a repeat of it is dropped.
use Rattle.stream_laws.proofs.Prelude.{◌≡◌, ◌∙◌, ap, sym, subst, refl, ◌<◌, true, List, [], ◌∷◌, Some, None, arith, true≢false, AllByRecursion, same_sub-refl, past, GrainId, grain_at, running_in, sub_at, waiting_in, dropped, Delivery, PlainPartition, RunningTurn, Subscription}
use Rattle.stream_laws.proofs.Deliveries.{waiting-other, waiting-own}
use Rattle.stream_laws.proofs.FitsOne.{Fits-grain, IsToldOf-refl}
use Rattle.stream_laws.proofs.Invariant.{Fits, GrainsFit, IsBoxed, SubFits, marks_of}
use Rattle.stream_laws.proofs.Marks.{IsServed}
use Rattle.stream_laws.proofs.OneChanged.{FitsHere, IsTurnAlike-refl}
use Rattle.stream_laws.proofs.ServedLemmas.{served-repeat}
use Rattle.stream_laws.proofs.Summary.{Summary}

-- a grain is active, no turn of it runs, and this delivery is at the front of its mailbox
pub record IsFront (t : Summary) (p : PlainPartition) (g : GrainId) (d : Delivery) (deliveries : List Delivery) (r : Subscription) : Type 0 where
  pub active : (grain_at p g).active ≡ true
  pub running : (grain_at p g).running ≡ None
  pub mailbox : (grain_at p g).mailbox ≡ d ∷ deliveries
  pub found : sub_at p d.sub ≡ Some r
  pub is_open : r.is_open ≡ true
  pub grain : r.grain ≡ g
  pub fits : SubFits t p.log p.low d.sub r [] (waiting_in d.sub (grain_at p g).mailbox)

-- its subscription is open and of the grain
pub is_front : (t : Summary) (p : PlainPartition) (g : GrainId) (d : Delivery) (deliveries : List Delivery) (r : Subscription)
    → (grain_at p g).active ≡ true → (grain_at p g).running ≡ None → (grain_at p g).mailbox ≡ d ∷ deliveries → sub_at p d.sub ≡ Some r
    → Fits t p → IsFront t p g d deliveries r
is_front t p g d deliveries r active idle mailbox found fits =
    let boxed : IsBoxed p g d = (subst (AllByRecursion (IsBoxed p g)) mailbox (fits.grains.each g).boxed).0 in
    let same : boxed.record_of ≡ r = same_record (boxed.record_of) boxed.found in
    let is_grain : r.grain ≡ g = ap (λ (q : Subscription). q.grain) (sym same) ∙ boxed.grain in
    let at_g : SubFits t p.log p.low d.sub r (running_in d.sub (grain_at p g).running) (waiting_in d.sub (grain_at p g).mailbox)
    = subst (λ h. SubFits t p.log p.low d.sub r (running_in d.sub (grain_at p h).running) (waiting_in d.sub (grain_at p h).mailbox)) is_grain (fits.subs d.sub r found) in
    record {
      active = active;
      running = idle;
      mailbox = mailbox;
      found = found;
      is_open = ap (λ (q : Subscription). q.is_open) (sym same) ∙ boxed.is_open;
      grain = is_grain;
      fits = subst (λ run. SubFits t p.log p.low d.sub r (running_in d.sub run) (waiting_in d.sub (grain_at p g).mailbox)) idle at_g;
    }
  where
    same_record : (q : Subscription) → sub_at p d.sub ≡ Some q → q ≡ r
    same_record q found_q = cc

FitsHere-dropped : (t : Summary) (p p' : PlainPartition) (g : GrainId) (d : Delivery) (deliveries : List Delivery) (r : Subscription)
    → IsFront t p g d deliveries r → GrainsFit t p → FitsHere t t p p' g (record (grain_at p g) { mailbox = deliveries })
FitsHere-dropped t p p' g d deliveries r front grains =
    record {
      boxed = (subst (AllByRecursion (IsBoxed p g)) front.mailbox (grains.each g).boxed).1;
      running = λ run is_run. absurd (no_run run is_run);
      idle = λ asleep. absurd (true≢false (sym front.active ∙ asleep));
      alike = λ h other run is_run. IsTurnAlike-refl t run.turn;
      apart = λ run is_run h other run2 is_run2 equal. no_run run is_run;
    }
  where
    no_run : (run : RunningTurn) → (grain_at p g).running ≡ Some run → ⊥
    no_run run is_run = let idle = front.running in cc

SubFits-dropped : (t : Summary) (p : PlainPartition) (g : GrainId) (d : Delivery) (deliveries : List Delivery) (r : Subscription)
    → IsFront t p g d deliveries r → d.position < past r.handled
    → SubFits t p.log p.low d.sub r (running_in d.sub (grain_at p g).running) (waiting_in d.sub deliveries)
SubFits-dropped t p g d deliveries r front below =
    let own : waiting_in d.sub (grain_at p g).mailbox ≡ d.position ∷ waiting_in d.sub deliveries
    = ap (waiting_in d.sub) front.mailbox ∙ waiting-own d.sub d deliveries (same_sub-refl d.sub) in
    let marks = marks_of r.stream r.start p.log in
    let fits = front.fits in
    subst (λ run. SubFits t p.log p.low d.sub r (running_in d.sub run) (waiting_in d.sub deliveries)) (sym front.running)
    (record {
      binding = fits.binding;
      handled = fits.handled;
      closed = fits.closed;
      note = fits.note;
      in_turn = fits.in_turn;
      served = λ is_open.
          served-repeat marks r.handled (waiting_in d.sub deliveries) r.resume r.cursor p.low d.position below
          (subst (λ way. IsServed marks r.handled way r.resume r.cursor p.low) own (fits.served is_open));
    })

-- a repeat of what is handled leaves the mailbox
pub Fits-dropped : (t : Summary) (p : PlainPartition) (g : GrainId) (d : Delivery) (deliveries : List Delivery) (r : Subscription)
    → IsFront t p g d deliveries r → d.position < past r.handled → Fits t p → Fits t (dropped p g (grain_at p g) deliveries)
Fits-dropped t p g d deliveries r front below fits =
    Fits-grain t t p d.sub r g (record (grain_at p g) { mailbox = deliveries }) p.rises p.turns front.found front.grain (omega arith) (IsToldOf-refl t d.sub)
    (λ x other. refl)
    (λ x other. sym (waiting-other x d deliveries other) ∙ ap (waiting_in x) (sym front.mailbox))
    (λ p' carried is_log is_turns. FitsHere-dropped t p p' g d deliveries r front fits.grains)
    (record { unused = fits.numbers.unused; uncommitted = fits.numbers.uncommitted; begun = fits.numbers.begun; committed = fits.numbers.committed })
    (SubFits-dropped t p g d deliveries r front below)
    fits
