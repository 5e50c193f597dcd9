-- The whole invariant after one record, or one record and its grain, was set.
use Rattle.stream_laws.proofs.Prelude.{◌≡◌, ℕ, ◌≤◌, Bool, true, false, List, [], ◌∷◌, Some, if◌then◌else◌, refl, sym, ap, subst, ◌∙◌, arith, grain_equality, sub_equality, same_grain, same_sub, value_at, with_value, GrainId, SubName, with_value-at, with_value-other, grain_at, new_grain, running_in, sub_at, waiting_in, with_sub, Grain, PlainPartition, Subscription}
use Rattle.std.specs.Prelude.{unwrap_or}
use Rattle.stream_laws.proofs.Invariant.{Fits, LogFits, NumbersFit, SubFits, running_of, waiting_of}
use Rattle.stream_laws.proofs.OneChanged.{FitsHere, GrainsFit-carried_to, GrainsFit-one, IsCarried, IsCarried-one, IsGrainChanged, IsOneChanged, IsSeenAlike, IsSeenAlike-grain, IsToldAlike, IsToldAlike-refl, IsTurnAlike-refl, NamesFit-one, SubsFit-one, UnmadeFit-one}
use Rattle.stream_laws.proofs.Summary.{Summary}

-- of no other name is anything else said, and the log and the bindings are as before
pub record IsToldOf (t t' : Summary) (s : SubName) : Type 0 where
  pub events : t'.events ≡ t.events
  pub batches : t'.batches ≡ t.batches
  pub low : t'.low ≡ t.low
  pub binding : t'.binding s ≡ t.binding s
  pub others : (x : SubName) → same_sub x s ≡ false → IsToldAlike t t' x

pub IsToldOf-refl : (t : Summary) (s : SubName) → IsToldOf t t s
IsToldOf-refl t s = record { events = refl; batches = refl; low = refl; binding = refl; others = λ x other. IsToldAlike-refl t x }

-- the record of s and the grain set, and these numbers
abbrev pub with_both : PlainPartition → SubName → Subscription → GrainId → Grain → ℕ → ℕ → PlainPartition
with_both p s r g st rises turns =
    record p { subs = with_value same_sub s r p.subs; grains = with_value same_grain g st p.grains; rises = rises; turns = turns }

pub LogFits-told : (t t' : Summary) (p : PlainPartition) (subs : List (SubName × Subscription)) (grains : List (GrainId × Grain)) (rises turns : ℕ)
    → t'.events ≡ t.events → t'.batches ≡ t.batches → t'.low ≡ t.low → LogFits t p
    → LogFits t' (record p { subs = subs; grains = grains; rises = rises; turns = turns })
LogFits-told t t' p subs grains rises turns events batches low fits =
    record {
      log = fits.log ∙ sym events;
      batches = fits.batches ∙ sym batches;
      low = low ∙ fits.low;
      low_high = fits.low_high;
      high_end = fits.high_end;
      rising = fits.rising;
      ended = fits.ended;
    }

pub NumbersFit-same : (t : Summary) (p : PlainPartition) (subs : List (SubName × Subscription)) (grains : List (GrainId × Grain)) (rises : ℕ)
    → NumbersFit t p → NumbersFit t (record p { subs = subs; grains = grains; rises = rises })
NumbersFit-same t p subs grains rises fits =
    record { unused = fits.unused; uncommitted = fits.uncommitted; begun = fits.begun; committed = fits.committed }

-- a value set to what it is
pub with_value-same : {K V : Type 0} (same : K → K → Bool) (k : K) (v : V) (entries : List (K × V)) → value_at same k entries ≡ Some v → with_value same k v entries ≡ entries
with_value-same same k v [] found = absurd (cc)
with_value-same {K = K} {V = V} same k v (entry ∷ entries) found =
    (elim (same k entry.0) as (λ b. (if b then Some entry.1 else value_at same k entries) ≡ Some v → (if b then (entry.0, v) ∷ entries else entry ∷ with_value same k v entries) ≡ entry ∷ entries) [
      | true ↦ λ here.
          let is_v : entry.1 ≡ v = cc in
          ap (λ (w : V). (entry.0, w) ∷ entries) (sym is_v)
      | false ↦ λ there. ap (λ rest. entry ∷ rest) (with_value-same same k v entries there)
    ]) found

-- a record set in place of another of the same grain, open where that was
pub Fits-sub : (t : Summary) (p : PlainPartition) (s : SubName) (was r : Subscription)
    → sub_at p s ≡ Some was → r.is_open ≡ was.is_open → r.grain ≡ was.grain
    → SubFits t p.log p.low s r (running_of p s r) (waiting_of p s r)
    → Fits t p → Fits t (with_sub p s r)
Fits-sub t p s was r found is_open is_grain here fits =
    let changed : IsOneChanged t t p (with_sub p s r) s r = record {
      log = refl;
      low = refl;
      high = refl;
      found = with_value-at same_sub sub_equality s r p.subs;
      told = λ x other. IsToldAlike-refl t x;
      seen = λ x other. record { found = with_value-other same_sub sub_equality x s r p.subs other; running = λ g. refl; waiting = λ g. refl };
    } in
    let carried = IsCarried-one t t p (with_sub p s r) s was r changed found is_open is_grain in
    record {
      log = LogFits-told t t p (with_value same_sub s r p.subs) p.grains p.rises p.turns refl refl refl fits.log;
      subs = SubsFit-one t t p (with_sub p s r) s r changed here fits.subs;
      unmade = UnmadeFit-one t t p (with_sub p s r) s r changed fits.unmade;
      names = NamesFit-one t t p (with_sub p s r) s was r changed found refl refl refl fits.names;
      grains = GrainsFit-carried_to t t p (with_sub p s r) carried refl (omega arith) (λ g. refl) (λ k. IsTurnAlike-refl t k) fits.grains;
      numbers = NumbersFit-same t p (with_value same_sub s r p.subs) p.grains p.rises fits.numbers;
    }

-- a grain that was set, in a partition with these records
pub IsGrainChanged-set : (p : PlainPartition) (subs : List (SubName × Subscription)) (g : GrainId) (st : Grain) (rises turns : ℕ)
    → IsGrainChanged p (record p { subs = subs; grains = with_value same_grain g st p.grains; rises = rises; turns = turns }) g st
IsGrainChanged-set p subs g st rises turns =
    record {
      here = ap (λ found. unwrap_or found new_grain) (with_value-at same_grain grain_equality g st p.grains);
      others = λ h other. ap (λ found. unwrap_or found new_grain) (with_value-other same_grain grain_equality h g st p.grains other);
    }

-- a record and its grain set
pub Fits-both : (t t' : Summary) (p : PlainPartition) (s : SubName) (was r : Subscription) (g : GrainId) (st : Grain) (rises turns : ℕ)
    → sub_at p s ≡ Some was → r.is_open ≡ was.is_open → r.grain ≡ was.grain → r.grain ≡ g → p.turns ≤ turns
    → IsToldOf t t' s
    → ((x : SubName) → same_sub x s ≡ false → running_in x st.running ≡ running_in x (grain_at p g).running)
    → ((x : SubName) → same_sub x s ≡ false → waiting_in x st.mailbox ≡ waiting_in x (grain_at p g).mailbox)
    → (IsCarried p (with_both p s r g st rises turns) → FitsHere t t' p (with_both p s r g st rises turns) g st)
    → NumbersFit t' (with_both p s r g st rises turns)
    → SubFits t' p.log p.low s r (running_in s st.running) (waiting_in s st.mailbox)
    → Fits t p → Fits t' (with_both p s r g st rises turns)
Fits-both t t' p s was r g st rises turns found is_open is_grain is_g more told running waiting here numbers fits_s fits =
    let p' : PlainPartition = with_both p s r g st rises turns in
    let subs' = with_value same_sub s r p.subs in
    let set : IsGrainChanged p p' g st = IsGrainChanged-set p subs' g st rises turns in
    let seen : (x : SubName) → same_sub x s ≡ false → IsSeenAlike p p' x
    = λ x other. IsSeenAlike-grain p p' g st x set (with_value-other same_sub sub_equality x s r p.subs other) (running x other) (waiting x other) in
    let changed : IsOneChanged t t' p p' s r
    = record { log = refl; low = refl; high = refl; found = with_value-at same_sub sub_equality s r p.subs; told = told.others; seen = seen } in
    let carried = IsCarried-one t t' p p' s was r changed found is_open is_grain in
    let at_g : grain_at p' r.grain ≡ st = ap (λ h. grain_at p' h) is_g ∙ set.here in
    let fits_s' : SubFits t' p.log p.low s r (running_of p' s r) (waiting_of p' s r)
    = subst (λ (now : Grain). SubFits t' p.log p.low s r (running_in s now.running) (waiting_in s now.mailbox)) (sym at_g) fits_s in
    record {
      log = LogFits-told t t' p subs' (with_value same_grain g st p.grains) rises turns told.events told.batches told.low fits.log;
      subs = SubsFit-one t t' p p' s r changed fits_s' fits.subs;
      unmade = UnmadeFit-one t t' p p' s r changed fits.unmade;
      names = NamesFit-one t t' p p' s was r changed found told.binding refl refl fits.names;
      grains = GrainsFit-one t t' p p' g st set carried refl more (here carried) fits.grains;
      numbers = numbers;
    }

-- a grain set that a record is of
pub Fits-grain : (t t' : Summary) (p : PlainPartition) (s : SubName) (r : Subscription) (g : GrainId) (st : Grain) (rises turns : ℕ)
    → sub_at p s ≡ Some r → r.grain ≡ g → p.turns ≤ turns
    → IsToldOf t t' s
    → ((x : SubName) → same_sub x s ≡ false → running_in x st.running ≡ running_in x (grain_at p g).running)
    → ((x : SubName) → same_sub x s ≡ false → waiting_in x st.mailbox ≡ waiting_in x (grain_at p g).mailbox)
    → ((p' : PlainPartition) → IsCarried p p' → p'.log ≡ p.log → p'.turns ≡ turns → FitsHere t t' p p' g st)
    → NumbersFit t' (record p { grains = with_value same_grain g st p.grains; rises = rises; turns = turns })
    → SubFits t' p.log p.low s r (running_in s st.running) (waiting_in s st.mailbox)
    → Fits t p → Fits t' (record p { grains = with_value same_grain g st p.grains; rises = rises; turns = turns })
Fits-grain t t' p s r g st rises turns found is_g more told running waiting here numbers fits_s fits =
    let numbers' : NumbersFit t' (with_both p s r g st rises turns)
    = record { unused = numbers.unused; uncommitted = numbers.uncommitted; begun = numbers.begun; committed = numbers.committed } in
    subst (λ subs. Fits t' (record p { subs = subs; grains = with_value same_grain g st p.grains; rises = rises; turns = turns }))
    (with_value-same same_sub s r p.subs found)
    (Fits-both t t' p s r r g st rises turns found refl refl is_g more told running waiting (λ carried. here (with_both p s r g st rises turns) carried refl refl) numbers' fits_s fits)
