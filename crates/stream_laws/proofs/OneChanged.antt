-- One record and one grain changed: the others see what they saw.
use Rattle.stream_laws.proofs.Prelude.{◌≡◌, ℕ, ◌<◌, ◌≤◌, true, false, List, [], Some, None, refl, sym, ap, subst, ◌∙◌, arith, true≢false, AllByRecursion, All-weaken, same_grain-equal, same_grain-refl, same_sub-equal, same_grain, same_sub, Event, GrainId, SubName, Binding, events_at, grain_at, running_in, sub_at, waiting_in, Delivery, Grain, PlainPartition, RunningTurn, Subscription}
use Rattle.stream_ident.specs.declared.ident.SubName.TheVariants as name
use Rattle.stream_laws.proofs.Invariant.{GrainFits, GrainsFit, IsBoxed, IsRunning, IsUnmade, NamesFit, RulesDiffer, SubFits, SubsFit, UnmadeFit, bound_by_rules, marks_of, running_of, waiting_of}
use Rattle.stream_laws.proofs.Marks.{IsClear}
use Rattle.stream_laws.proofs.Summary.{Summary}

-- of a name the same is said
pub record IsToldAlike (t t' : Summary) (x : SubName) : Type 0 where
  pub binding : t'.binding x ≡ t.binding x
  pub handled : t'.handled x ≡ t.handled x
  pub closed : t'.closed x ≡ t.closed x
  pub note : t'.note x ≡ t.note x

pub IsToldAlike-refl : (t : Summary) (x : SubName) → IsToldAlike t t x
IsToldAlike-refl t x = record { binding = refl; handled = refl; closed = refl; note = refl }

-- and of a turn
pub record IsTurnAlike (t t' : Summary) (k : ℕ) : Type 0 where
  pub events : t'.turn k ≡ t.turn k
  pub begun : t'.begun k ≡ t.begun k
  pub committed : t'.committed k ≡ t.committed k

pub IsTurnAlike-refl : (t : Summary) (k : ℕ) → IsTurnAlike t t k
IsTurnAlike-refl t k = record { events = refl; begun = refl; committed = refl }

-- a name's record and its positions at each grain are the same
pub record IsSeenAlike (p p' : PlainPartition) (x : SubName) : Type 0 where
  pub found : sub_at p' x ≡ sub_at p x
  pub running : (g : GrainId) → running_in x (grain_at p' g).running ≡ running_in x (grain_at p g).running
  pub waiting : (g : GrainId) → waiting_in x (grain_at p' g).mailbox ≡ waiting_in x (grain_at p g).mailbox

-- the grain is this one now, and the others are the same
pub record IsGrainChanged (p p' : PlainPartition) (g : GrainId) (st : Grain) : Type 0 where
  pub here : grain_at p' g ≡ st
  pub others : (h : GrainId) → same_grain h g ≡ false → grain_at p' h ≡ grain_at p h

-- the record of s is this one now, and the others see what they saw
pub record IsOneChanged (t t' : Summary) (p p' : PlainPartition) (s : SubName) (r : Subscription) : Type 0 where
  pub log : p'.log ≡ p.log
  pub low : p'.low ≡ p.low
  pub high : p'.high ≡ p.high
  pub found : sub_at p' s ≡ Some r
  pub told : (x : SubName) → same_sub x s ≡ false → IsToldAlike t t' x
  pub seen : (x : SubName) → same_sub x s ≡ false → IsSeenAlike p p' x

-- each record is still there, of the same grain, and open where it was
abbrev pub IsCarried : PlainPartition → PlainPartition → Type 0
IsCarried p p' =
    (x : SubName) (r : Subscription) → sub_at p x ≡ Some r
    → (now : Subscription) × (sub_at p' x ≡ Some now) × (now.is_open ≡ r.is_open) × (now.grain ≡ r.grain)

SubFits-told : (t t' : Summary) (log : List Event) (low : ℕ) (x : SubName) (r : Subscription) (running waiting : List ℕ)
    → IsToldAlike t t' x → SubFits t log low x r running waiting → SubFits t' log low x r running waiting
SubFits-told t t' log low x r running waiting alike fits =
    record {
      binding = alike.binding ∙ fits.binding;
      handled = alike.handled ∙ fits.handled;
      closed = alike.closed ∙ fits.closed;
      note = alike.note ∙ fits.note;
      in_turn = fits.in_turn;
      served = fits.served;
    }

-- a record fits where it sees equal facts
pub SubFits-alike : (t t' : Summary) (log log' : List Event) (low low' : ℕ) (x : SubName) (r : Subscription) (running running' waiting waiting' : List ℕ)
    → IsToldAlike t t' x → log' ≡ log → low' ≡ low → running' ≡ running → waiting' ≡ waiting
    → SubFits t log low x r running waiting → SubFits t' log' low' x r running' waiting'
SubFits-alike t t' log log' low low' x r running running' waiting waiting' alike is_log is_low is_running is_waiting fits =
    subst (λ l. SubFits t' l low' x r running' waiting') (sym is_log)
    (subst (λ n. SubFits t' log n x r running' waiting') (sym is_low)
    (subst (λ ps. SubFits t' log low x r ps waiting') (sym is_running)
    (subst (λ ps. SubFits t' log low x r running ps) (sym is_waiting)
    (SubFits-told t t' log low x r running waiting alike fits))))

pub SubsFit-one : (t t' : Summary) (p p' : PlainPartition) (s : SubName) (r : Subscription)
    → IsOneChanged t t' p p' s r → SubFits t' p'.log p'.low s r (running_of p' s r) (waiting_of p' s r) → SubsFit t p → SubsFit t' p'
SubsFit-one t t' p p' s r changed here subs x now is_now =
    (elim (same_sub x s) as (λ b. same_sub x s ≡ b → SubFits t' p'.log p'.low x now (running_of p' x now) (waiting_of p' x now)) [
      | true ↦ λ same.
          let is_s : s ≡ x = sym (same_sub-equal x s same) in
          let found : sub_at p' x ≡ Some r = subst (λ y. sub_at p' y ≡ Some r) is_s changed.found in
          let is_r : r ≡ now = cc in
          subst (λ y. SubFits t' p'.log p'.low x y (running_of p' x y) (waiting_of p' x y)) is_r
          (subst (λ y. SubFits t' p'.log p'.low y r (running_of p' y r) (waiting_of p' y r)) is_s here)
      | false ↦ λ other.
          let seen = changed.seen x other in
          SubFits-alike t t' p.log p'.log p.low p'.low x now (running_of p x now) (running_of p' x now) (waiting_of p x now) (waiting_of p' x now)
          (changed.told x other) changed.log changed.low (seen.running now.grain) (seen.waiting now.grain)
          (subs x now (sym seen.found ∙ is_now))
    ]) refl

-- a name without a record isn't the changed one
other_name : {t t' : Summary} {p p' : PlainPartition} (s x : SubName) (r : Subscription) → IsOneChanged t t' p p' s r → sub_at p' x ≡ None → same_sub x s ≡ false
other_name {t = t} {t' = t'} {p = p} {p' = p'} s x r changed none =
    (elim (same_sub x s) as (λ b. same_sub x s ≡ b → b ≡ false) [
      | true ↦ λ same.
          let found : sub_at p' x ≡ Some r = subst (λ y. sub_at p' y ≡ Some r) (sym (same_sub-equal x s same)) changed.found in
          absurd (cc)
      | false ↦ λ other. refl
    ]) refl

pub UnmadeFit-one : (t t' : Summary) (p p' : PlainPartition) (s : SubName) (r : Subscription)
    → IsOneChanged t t' p p' s r → UnmadeFit t p → UnmadeFit t' p'
UnmadeFit-one t t' p p' s r changed unmade x none =
    let other = other_name s x r changed none in
    let told = changed.told x other in
    let seen = changed.seen x other in
    let was = unmade x (sym seen.found ∙ none) in
    let unseen : (b : Binding) → t'.binding x ≡ Some b → IsClear (marks_of b.stream b.start p.log) 0 p.high
    = λ b is_b. was.unseen b (sym told.binding ∙ is_b) in
    subst (λ log. IsUnmade t' log p'.high x) (sym changed.log)
    (subst (λ high. IsUnmade t' p.log high x) (sym changed.high)
    (record { handled = told.handled ∙ was.handled; closed = told.closed ∙ was.closed; note = told.note ∙ was.note; unseen = unseen }))

-- a binding stays as it is
pub NamesFit-one : (t t' : Summary) (p p' : PlainPartition) (s : SubName) (was r : Subscription)
    → IsOneChanged t t' p p' s r → sub_at p s ≡ Some was → t'.binding s ≡ t.binding s → p'.explicit ≡ p.explicit → p'.rules ≡ p.rules
    → NamesFit t p → NamesFit t' p'
NamesFit-one t t' p p' s was r changed was_there bound is_explicit is_rules names =
    record {
      unused = λ n above. none_of n (names.unused n (subst (λ m. m < n) is_explicit above));
      unbound = λ n none.
          let other = other_name s (name.Explicit n) r changed none in
          (changed.told (name.Explicit n) other).binding ∙ names.unbound n (sym (changed.seen (name.Explicit n) other).found ∙ none);
      implied = λ kind stream. binding_of (name.Implicit kind stream) ∙ names.implied kind stream ∙ ap (bound_by_rules (name.Implicit kind stream)) (sym is_rules);
      differ = subst RulesDiffer (sym is_rules) names.differ;
    }
  where
    none_of : (n : ℕ) → sub_at p (name.Explicit n) ≡ None → sub_at p' (name.Explicit n) ≡ None
    none_of n none =
        (elim (same_sub (name.Explicit n) s) as (λ b. same_sub (name.Explicit n) s ≡ b → sub_at p' (name.Explicit n) ≡ None) [
          | true ↦ λ same.
              let found : sub_at p (name.Explicit n) ≡ Some was = subst (λ y. sub_at p y ≡ Some was) (sym (same_sub-equal (name.Explicit n) s same)) was_there in
              absurd (cc)
          | false ↦ λ other. (changed.seen (name.Explicit n) other).found ∙ none
        ]) refl

    binding_of : (x : SubName) → t'.binding x ≡ t.binding x
    binding_of x =
        (elim (same_sub x s) as (λ b. same_sub x s ≡ b → t'.binding x ≡ t.binding x) [
          | true ↦ λ same. subst (λ y. t'.binding y ≡ t.binding y) (sym (same_sub-equal x s same)) bound
          | false ↦ λ other. (changed.told x other).binding
        ]) refl

-- where the new record is of the old one's grain and open as it was
pub IsCarried-one : (t t' : Summary) (p p' : PlainPartition) (s : SubName) (was r : Subscription)
    → IsOneChanged t t' p p' s r → sub_at p s ≡ Some was → r.is_open ≡ was.is_open → r.grain ≡ was.grain → IsCarried p p'
IsCarried-one t t' p p' s was r changed was_there is_open is_grain x old found =
    (elim (same_sub x s) as (λ b. same_sub x s ≡ b → (now : Subscription) × (sub_at p' x ≡ Some now) × (now.is_open ≡ old.is_open) × (now.grain ≡ old.grain)) [
      | true ↦ λ same.
          let is_s : s ≡ x = sym (same_sub-equal x s same) in
          let was_here : sub_at p x ≡ Some was = subst (λ y. sub_at p y ≡ Some was) is_s was_there in
          let is_old : was ≡ old = cc in
          (r, subst (λ y. sub_at p' y ≡ Some r) is_s changed.found, is_open ∙ ap (λ (y : Subscription). y.is_open) is_old, is_grain ∙ ap (λ (y : Subscription). y.grain) is_old)
      | false ↦ λ other. (old, (changed.seen x other).found ∙ found, refl, refl)
    ]) refl

pub IsBoxed-carried : (p p' : PlainPartition) (g : GrainId) → IsCarried p p' → (d : Delivery) → IsBoxed p g d → IsBoxed p' g d
IsBoxed-carried p p' g carried d boxed =
    let now = carried d.sub boxed.record_of boxed.found in
    record { record_of = now.0; found = now.1; is_open = now.2 ∙ boxed.is_open; grain = now.3 ∙ boxed.grain }

pub IsRunning-carried : (t t' : Summary) (p p' : PlainPartition) (g : GrainId) (run : RunningTurn)
    → IsCarried p p' → p'.log ≡ p.log → p.turns ≤ p'.turns → IsTurnAlike t t' run.turn → IsRunning t p g run → IsRunning t' p' g run
IsRunning-carried t t' p p' g run carried is_log more alike running =
    let now = carried run.sub running.record_of running.found in
    record {
      record_of = now.0;
      found = now.1;
      grain = now.3 ∙ running.grain;
      events = alike.events ∙ running.events ∙ ap (λ log. events_at log run.positions) (sym is_log);
      begun = alike.begun ∙ running.begun;
      committed = alike.committed ∙ running.committed;
      number = omega (arith, running.number);
      some = running.some;
      bound = running.bound;
    }

-- a grain that is as it was
pub GrainFits-carried : (t t' : Summary) (p p' : PlainPartition) (g : GrainId)
    → IsCarried p p' → p'.log ≡ p.log → p.turns ≤ p'.turns → grain_at p' g ≡ grain_at p g
    → ((run : RunningTurn) → (grain_at p g).running ≡ Some run → IsTurnAlike t t' run.turn)
    → GrainFits t p g → GrainFits t' p' g
GrainFits-carried t t' p p' g carried is_log more is_grain alike fits =
    record {
      boxed = subst (λ (st : Grain). AllByRecursion (IsBoxed p' g) st.mailbox) (sym is_grain)
          (All-weaken (IsBoxed p g) (IsBoxed p' g) (IsBoxed-carried p p' g carried) (grain_at p g).mailbox fits.boxed);
      running = λ run is_run.
          let ran : (grain_at p g).running ≡ Some run = ap (λ (st : Grain). st.running) (sym is_grain) ∙ is_run in
          IsRunning-carried t t' p p' g run carried is_log more (alike run ran) (fits.running run ran);
      idle = subst (λ (st : Grain). st.active ≡ false → (st.mailbox ≡ []) × (st.running ≡ None)) (sym is_grain) fits.idle;
    }

-- what the changed grain has to show
pub record FitsHere (t t' : Summary) (p p' : PlainPartition) (g : GrainId) (st : Grain) : Type 0 where
  pub boxed : AllByRecursion (IsBoxed p g) st.mailbox
  pub running : (run : RunningTurn) → st.running ≡ Some run → IsRunning t' p' g run
  pub idle : st.active ≡ false → (st.mailbox ≡ []) × (st.running ≡ None)
  -- the turns of the other grains are as they were, and of other numbers
  pub alike : (h : GrainId) → same_grain h g ≡ false → (run : RunningTurn) → (grain_at p h).running ≡ Some run → IsTurnAlike t t' run.turn
  pub apart : (run : RunningTurn) → st.running ≡ Some run → (h : GrainId) → same_grain h g ≡ false → (other : RunningTurn)
      → (grain_at p h).running ≡ Some other → run.turn ≡ other.turn → ⊥

pub GrainsFit-one : (t t' : Summary) (p p' : PlainPartition) (g : GrainId) (st : Grain)
    → IsGrainChanged p p' g st → IsCarried p p' → p'.log ≡ p.log → p.turns ≤ p'.turns
    → FitsHere t t' p p' g st → GrainsFit t p → GrainsFit t' p'
GrainsFit-one t t' p p' g st changed carried is_log more here grains =
    record {
      each = λ h. (elim (same_grain h g) as (λ b. same_grain h g ≡ b → GrainFits t' p' h) [
        | true ↦ λ same. subst (λ k. GrainFits t' p' k) (sym (same_grain-equal h g same)) fits_here
        | false ↦ λ other. GrainFits-carried t t' p p' h carried is_log more (changed.others h other) (here.alike h other) (grains.each h)
      ]) refl;
      apart = λ h k run other is_run is_other equal.
          (elim (same_grain h g) as (λ b. same_grain h g ≡ b → h ≡ k) [
            | true ↦ λ same.
                (elim (same_grain k g) as (λ b. same_grain k g ≡ b → h ≡ k) [
                  | true ↦ λ same_k. same_grain-equal h g same ∙ sym (same_grain-equal k g same_k)
                  | false ↦ λ other_k.
                      absurd (here.apart run (run_here h run same is_run) k other_k other (ran k other other_k is_other) equal)
                ]) refl
            | false ↦ λ other_h.
                (elim (same_grain k g) as (λ b. same_grain k g ≡ b → h ≡ k) [
                  | true ↦ λ same_k.
                      absurd (here.apart other (run_here k other same_k is_other) h other_h run (ran h run other_h is_run) (sym equal))
                  | false ↦ λ other_k. grains.apart h k run other (ran h run other_h is_run) (ran k other other_k is_other) equal
                ]) refl
          ]) refl;
    }
  where
    fits_here : GrainFits t' p' g
    fits_here =
        record {
          boxed = subst (λ (now : Grain). AllByRecursion (IsBoxed p' g) now.mailbox) (sym changed.here)
              (All-weaken (IsBoxed p g) (IsBoxed p' g) (IsBoxed-carried p p' g carried) st.mailbox here.boxed);
          running = λ run is_run. here.running run (ap (λ (now : Grain). now.running) (sym changed.here) ∙ is_run);
          idle = subst (λ (now : Grain). now.active ≡ false → (now.mailbox ≡ []) × (now.running ≡ None)) (sym changed.here) here.idle;
        }

    run_here : (h : GrainId) (run : RunningTurn) → same_grain h g ≡ true → (grain_at p' h).running ≡ Some run → st.running ≡ Some run
    run_here h run same is_run =
        ap (λ (now : Grain). now.running) (sym changed.here)
        ∙ subst (λ k. (grain_at p' k).running ≡ Some run) (same_grain-equal h g same) is_run

    ran : (h : GrainId) (run : RunningTurn) → same_grain h g ≡ false → (grain_at p' h).running ≡ Some run → (grain_at p h).running ≡ Some run
    ran h run other is_run = ap (λ (now : Grain). now.running) (sym (changed.others h other)) ∙ is_run

-- the grains are as before, each record is there, and of turns the same is said
pub GrainsFit-carried_to : (t t' : Summary) (p p' : PlainPartition)
    → IsCarried p p' → p'.log ≡ p.log → p.turns ≤ p'.turns → ((g : GrainId) → grain_at p' g ≡ grain_at p g) → ((k : ℕ) → IsTurnAlike t t' k)
    → GrainsFit t p → GrainsFit t' p'
GrainsFit-carried_to t t' p p' carried is_log more is_grain alike grains =
    record {
      each = λ g. GrainFits-carried t t' p p' g carried is_log more (is_grain g) (λ run is_run. alike run.turn) (grains.each g);
      apart = λ g h run other is_run is_other equal. grains.apart g h run other (ran g run is_run) (ran h other is_other) equal;
    }
  where
    ran : (h : GrainId) (run : RunningTurn) → (grain_at p' h).running ≡ Some run → (grain_at p h).running ≡ Some run
    ran h run is_run = ap (λ (now : Grain). now.running) (sym (is_grain h)) ∙ is_run

-- a turn of this grain isn't one of another
pub apart-others : (t : Summary) (p : PlainPartition) (g h : GrainId) (run other : RunningTurn) → GrainsFit t p
    → (grain_at p g).running ≡ Some run → same_grain h g ≡ false → (grain_at p h).running ≡ Some other → run.turn ≡ other.turn → ⊥
apart-others t p g h run other grains is_run different is_other equal =
    let same = grains.apart g h run other is_run is_other equal in
    true≢false (sym (same_grain-refl g) ∙ ap (λ k. same_grain k g) same ∙ different)

-- what others see of a grain that has changed
pub IsSeenAlike-grain : (p p' : PlainPartition) (g : GrainId) (st : Grain) (x : SubName)
    → IsGrainChanged p p' g st → sub_at p' x ≡ sub_at p x
    → running_in x st.running ≡ running_in x (grain_at p g).running → waiting_in x st.mailbox ≡ waiting_in x (grain_at p g).mailbox
    → IsSeenAlike p p' x
IsSeenAlike-grain p p' g st x changed found running waiting =
    record {
      found = found;
      running = λ h. at_grain h (λ now. running_in x now.running) running;
      waiting = λ h. at_grain h (λ now. waiting_in x now.mailbox) waiting;
    }
  where
    at_grain : (h : GrainId) (seen : Grain → List ℕ) → seen st ≡ seen (grain_at p g) → seen (grain_at p' h) ≡ seen (grain_at p h)
    at_grain h seen same_seen =
        (elim (same_grain h g) as (λ b. same_grain h g ≡ b → seen (grain_at p' h) ≡ seen (grain_at p h)) [
          | true ↦ λ same. subst (λ k. seen (grain_at p' k) ≡ seen (grain_at p k)) (sym (same_grain-equal h g same)) (ap seen changed.here ∙ same_seen)
          | false ↦ λ other. ap seen (changed.others h other)
        ]) refl
