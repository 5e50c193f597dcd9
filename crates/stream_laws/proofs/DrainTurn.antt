-- A turn of a grain for which something waits: the first delivery leaves the mailbox, and either it was a
-- repeat or one more event is handled.
use Rattle.stream_laws.proofs.Prelude.{◌≡◌, ℕ, suc, ◌-◌, ◌≤◌, ◌==◌, nat_lt, Bool, true, false, List, [], ◌∷◌, ◌++◌, length, Option, Some, None, if◌then◌else◌, unwrap_or, refl, ap, subst, arith, ◌∙◌, eq-eqb, AllByRecursion, grain_equality, same_sub-refl, sub_equality, same_grain, same_sub, past, value_at, Event, GrainId, SubName, with_value-at, with_value-other, after_begin, after_commit, all_waiting, next_note, events_at, grain_at, is_spent, new_grain, sub_at, token_at, begun, committed, dropped, Begin, Commit, Delivery, Grain, PlainPartition, Subscription}
use Rattle.std.proofs.Common.{length-append}
use Rattle.stream_model.specs.declared.reply.Reply.TheVariants as reply
use Rattle.stream_model.specs.Draining.{take_turn}
use Rattle.stream_model.specs.Step.{step}
use Rattle.stream_laws.proofs.DrainBase.{IsSound, IsTold, handled_since, told-step}
use Rattle.stream_laws.proofs.DrainBegin.{begin-dropped, begin-spent, begin-turn, busy_grain, commit-turn, ready_grain, turn_of}
use Rattle.stream_laws.proofs.DrainRule.{Meets, Tally, meets-ask, tally_after}
use Rattle.stream_laws.proofs.DrainSums.{sum_open-more, waiting-set}
use Rattle.stream_laws.proofs.IdleGrains.{IsIdle, each-grain, grain-other, grain-set}
use Rattle.stream_laws.proofs.Invariant.{IsBoxed}
use Rattle.stream_laws.proofs.Summary.{Summary, after}

-- the record of a subscription that is open as this one is, of the same grain and with the same cursor
pub record IsLike (p : PlainPartition) (s : SubName) (r : Subscription) : Type 0 where
  pub now : Subscription
  pub found : sub_at p s ≡ Some now
  pub is_open : now.is_open ≡ r.is_open
  pub grain : now.grain ≡ r.grain
  pub cursor : now.cursor ≡ r.cursor

-- what a turn of the first delivery leaves
pub record IsTurned (p q : PlainPartition) (g : GrainId) (d : Delivery) (deliveries : List Delivery) : Type 0 where
  pub log : q.log ≡ p.log
  pub high : q.high ≡ p.high
  pub mailbox : (grain_at q g).mailbox ≡ deliveries
  pub mailboxes : (k : GrainId) → same_grain k g ≡ false → (grain_at q k).mailbox ≡ (grain_at p k).mailbox
  pub waiting : suc (all_waiting q) ≡ all_waiting p
  pub sub : (r : Subscription) → sub_at p d.sub ≡ Some r → IsLike q d.sub r
  pub others : (s : SubName) → same_sub s d.sub ≡ false → sub_at q s ≡ sub_at p s

-- ---- a repeat

dropped-sound : (cache : ℕ) (t0 : Summary) (t : Tally) (p : PlainPartition) (g : GrainId) (activation : ℕ) (d : Delivery) (deliveries : List Delivery) → IsSound cache t0 t p
    → step p (Begin g 1) ≡ (dropped p g (ready_grain activation d deliveries) deliveries, reply.Dropped d.sub (token_at p d.position))
    → IsSound cache t0 (tally_after t (Begin g 1) (reply.Dropped d.sub (token_at p d.position))) (dropped p g (ready_grain activation d deliveries) deliveries)
dropped-sound cache t0 t p g activation d deliveries sound is =
    let q = dropped p g (ready_grain activation d deliveries) deliveries in
    record {
      told = told-step cache t0 t p (Begin g 1) q (reply.Dropped d.sub (token_at p d.position)) is sound.told refl (λ s. refl) (λ s. omega arith) sound.told.turns;
      idle = each-grain (λ (st : Grain). st.running ≡ None) q p.grains g (record (ready_grain activation d deliveries) { mailbox = deliveries }) refl refl (λ k other. sound.idle k);
    }

dropped-turned : (p : PlainPartition) (g : GrainId) (activation : ℕ) (d : Delivery) (deliveries : List Delivery) → value_at same_grain g p.grains ≡ Some (ready_grain activation d deliveries)
    → IsTurned p (dropped p g (ready_grain activation d deliveries) deliveries) g d deliveries
dropped-turned p g activation d deliveries found =
    let st = record (ready_grain activation d deliveries) { mailbox = deliveries } in
    let q = dropped p g (ready_grain activation d deliveries) deliveries in
    record {
      log = refl;
      high = refl;
      mailbox = ap (λ (st : Grain). st.mailbox) (grain-set q p.grains g st refl);
      mailboxes = λ k other. ap (λ (st : Grain). st.mailbox) (grain-other q p.grains k g st refl other);
      waiting = let count = waiting-set g (ready_grain activation d deliveries) st p.grains found in omega (arith, count);
      sub = λ r is. record { now = r; found = is; is_open = refl; grain = refl; cursor = refl };
      others = λ s other. refl;
    }

-- ---- an event that is handled

longer-if : (b : Bool) (old more : List Event) → length old ≤ length (if b then old ++ more else old)
longer-if true old more = omega (arith, length-append old more)
longer-if false old more = omega arith

-- one event more
one-more : (b c : Bool) (old events other : List Event) (n : ℕ) → b ≡ true → c ≡ true → length events ≡ 1 → n ≤ length old → length (if b then old ++ (if c then events else other) else old) - n ≡ suc (length old - n)
one-more b c old events other n is_b is_c one le =
    rw (is_b, is_c) (omega (arith, length-append old events, one, le))

committed-told : (cache : ℕ) (t0 : Summary) (t : Tally) (p : PlainPartition) (g : GrainId) (activation : ℕ) (d : Delivery) (deliveries : List Delivery) (r : Subscription) (note : ℕ) → IsTold cache t0 t p
    → step p (Begin g 1) ≡ (begun p g (ready_grain activation d deliveries) d.sub (d.position ∷ []), reply.Turn d.sub activation (suc p.turns) (events_at p.log (d.position ∷ [])) r.note)
    → step (begun p g (ready_grain activation d deliveries) d.sub (d.position ∷ [])) (Commit g activation (suc p.turns) note) ≡ (committed (begun p g (ready_grain activation d deliveries) d.sub (d.position ∷ [])) g (busy_grain p activation d deliveries) (turn_of p d) r note, reply.Committed d.sub (token_at p d.position))
    → sub_at p d.sub ≡ Some r → r.is_open ≡ true
    → IsTold cache t0 (tally_after (tally_after t (Begin g 1) (reply.Turn d.sub activation (suc p.turns) (events_at p.log (d.position ∷ [])) r.note)) (Commit g activation (suc p.turns) note) (reply.Committed d.sub (token_at p d.position)))
    (committed (begun p g (ready_grain activation d deliveries) d.sub (d.position ∷ [])) g (busy_grain p activation d deliveries) (turn_of p d) r note)
committed-told cache t0 t p g activation d deliveries r note told begins commits found is_open =
    let p1 = begun p g (ready_grain activation d deliveries) d.sub (d.position ∷ []) in
    let turn = reply.Turn d.sub activation (suc p.turns) (events_at p.log (d.position ∷ [])) r.note in
    let t1 = tally_after t (Begin g 1) turn in
    let told1 = told-step cache t0 t p (Begin g 1) p1 turn begins told refl (λ s. refl) (λ s. omega arith) told.turns in
    let answer = reply.Committed d.sub (token_at p d.position) in
    let o = Commit g activation (suc p.turns) note in
    let q = committed p1 g (busy_grain p activation d deliveries) (turn_of p d) r note in
    let sums = sum_open-more (handled_since t0 t1.said) (handled_since t0 (after t1.said o answer)) d.sub r (record r { handled = r.handled ++ d.position ∷ []; note = note }) p.subs told.steady.subs found is_open is_open
    (one-more (same_sub d.sub d.sub) (suc p.turns == suc p.turns) (t.said.handled d.sub) (events_at p.log (d.position ∷ [])) (t.said.turn (suc p.turns)) (length (t0.handled d.sub)) (same_sub-refl d.sub) (eq-eqb (suc p.turns) (suc p.turns) refl) refl (told.longer d.sub))
    (λ s other. ap (λ b. length (if b then t.said.handled s ++ t1.said.turn (suc p.turns) else t.said.handled s) - length (t0.handled s)) other) in
    told-step cache t0 t1 p1 o q answer commits told1 refl (λ s. refl) (λ s. longer-if (same_sub s d.sub) (t.said.handled s) (t1.said.turn (suc p.turns))) (sums ∙ ap suc told.turns)

-- the partition after the commit
abbrev turned : PlainPartition → GrainId → ℕ → Delivery → List Delivery → Subscription → ℕ → PlainPartition
turned p g activation d deliveries r note =
    committed (begun p g (ready_grain activation d deliveries) d.sub (d.position ∷ [])) g (busy_grain p activation d deliveries) (turn_of p d) r note

committed-idle : (p : PlainPartition) (g : GrainId) (activation : ℕ) (d : Delivery) (deliveries : List Delivery) (r : Subscription) (note : ℕ) → IsIdle p → IsIdle (turned p g activation d deliveries r note)
committed-idle p g activation d deliveries r note idle =
    let p1 = begun p g (ready_grain activation d deliveries) d.sub (d.position ∷ []) in
    each-grain (λ (st : Grain). st.running ≡ None) (turned p g activation d deliveries r note) p1.grains g (record (busy_grain p activation d deliveries) { running = None }) refl refl
    (λ k other. ap (λ (st : Grain). st.running) (grain-other p1 p.grains k g (busy_grain p activation d deliveries) refl other) ∙ idle k)

committed-turned : (p : PlainPartition) (g : GrainId) (activation : ℕ) (d : Delivery) (deliveries : List Delivery) (r : Subscription) (note : ℕ) → value_at same_grain g p.grains ≡ Some (ready_grain activation d deliveries) → sub_at p d.sub ≡ Some r
    → IsTurned p (turned p g activation d deliveries r note) g d deliveries
committed-turned p g activation d deliveries r note found is_r =
    let busy = busy_grain p activation d deliveries in
    let st = record busy { running = None } in
    let p1 = begun p g (ready_grain activation d deliveries) d.sub (d.position ∷ []) in
    let q = turned p g activation d deliveries r note in
    let r' = record r { handled = r.handled ++ d.position ∷ []; note = note } in
    record {
      log = refl;
      high = refl;
      mailbox = ap (λ (st : Grain). st.mailbox) (grain-set q p1.grains g st refl);
      mailboxes = λ k other. ap (λ (st : Grain). st.mailbox) (grain-other q p1.grains k g st refl other ∙ grain-other p1 p.grains k g busy refl other);
      waiting =
          let first = waiting-set g (ready_grain activation d deliveries) busy p.grains found in
          let second = waiting-set g busy st p1.grains (with_value-at same_grain grain_equality g busy p.grains) in
          omega (arith, first, second);
      sub = λ was is_was.
          let same : r ≡ was = cc in
          record {
            now = r';
            found = with_value-at same_sub sub_equality d.sub r' p.subs;
            is_open = ap (λ (r : Subscription). r.is_open) same;
            grain = ap (λ (r : Subscription). r.grain) same;
            cursor = ap (λ (r : Subscription). r.cursor) same;
          };
      others = λ s other. with_value-other same_sub sub_equality s d.sub r' p.subs other;
    }

-- ---- either

-- what a drain's turn leaves
abbrev pub TurnedSound : ℕ → Summary → PlainPartition → GrainId → Delivery → List Delivery → Tally → PlainPartition → Type 0
TurnedSound cache t0 p g d deliveries u q = IsSound cache t0 u q × IsTurned p q g d deliveries

turn-of : (cache : ℕ) (t0 : Summary) (t : Tally) (p : PlainPartition) (g : GrainId) (activation : ℕ) (d : Delivery) (deliveries : List Delivery) (r : Subscription) → IsSound cache t0 t p
    → value_at same_grain g p.grains ≡ Some (ready_grain activation d deliveries) → grain_at p g ≡ ready_grain activation d deliveries → sub_at p d.sub ≡ Some r → r.is_open ≡ true
    → (repeat spent : Bool) → nat_lt d.position (past r.handled) ≡ repeat → is_spent p ≡ spent → Meets (TurnedSound cache t0 p g d deliveries) t (take_turn g p)
unfolding take_turn
turn-of cache t0 t p g activation d deliveries r sound found is is_r is_open true spent is_repeat is_so =
    let begins = begin-dropped p g activation d deliveries r is is_r is_repeat in
    meets-ask (TurnedSound cache t0 p g d deliveries) t p (Begin g 1) (after_begin g) (dropped p g (ready_grain activation d deliveries) deliveries) (reply.Dropped d.sub (token_at p d.position)) begins
    (dropped-sound cache t0 t p g activation d deliveries sound begins, dropped-turned p g activation d deliveries found)
turn-of cache t0 t p g activation d deliveries r sound found is is_r is_open false true is_repeat is_so =
    meets-ask (TurnedSound cache t0 p g d deliveries) t p (Begin g 1) (after_begin g) p reply.Spent (begin-spent p g activation d deliveries r is is_r is_repeat is_so) tt
turn-of cache t0 t p g activation d deliveries r sound found is is_r is_open false false is_repeat is_so =
    let begins = begin-turn p g activation d deliveries r is is_r is_repeat is_so in
    let p1 = begun p g (ready_grain activation d deliveries) d.sub (d.position ∷ []) in
    let turn = reply.Turn d.sub activation (suc p.turns) (events_at p.log (d.position ∷ [])) r.note in
    let busy = busy_grain p activation d deliveries in
    let commits = commit-turn p1 g busy (turn_of p d) (next_note r.note) r (grain-set p1 p.grains g busy refl) refl is_r is_open in
    meets-ask (TurnedSound cache t0 p g d deliveries) t p (Begin g 1) (after_begin g) p1 turn begins
    (meets-ask (TurnedSound cache t0 p g d deliveries) (tally_after t (Begin g 1) turn) p1 (Commit g activation (suc p.turns) (next_note r.note)) after_commit (turned p g activation d deliveries r (next_note r.note)) (reply.Committed d.sub (token_at p d.position)) commits (
      record {
        told = committed-told cache t0 t p g activation d deliveries r (next_note r.note) sound.told begins commits is_r is_open;
        idle = committed-idle p g activation d deliveries r (next_note r.note) sound.idle;
      },
      committed-turned p g activation d deliveries r (next_note r.note) found is_r,
    ))

-- a turn of a grain with a delivery
pub meets-take_turn : (cache : ℕ) (t0 : Summary) (t : Tally) (p : PlainPartition) (g : GrainId) (activation : ℕ) (d : Delivery) (deliveries : List Delivery) → IsSound cache t0 t p
    → value_at same_grain g p.grains ≡ Some (ready_grain activation d deliveries) → Meets (TurnedSound cache t0 p g d deliveries) t (take_turn g p)
meets-take_turn cache t0 t p g activation d deliveries sound found =
    let is : grain_at p g ≡ ready_grain activation d deliveries = ap (λ (o : Option Grain). unwrap_or o new_grain) found in
    let boxed : IsBoxed p g d = (subst (λ (st : Grain). AllByRecursion (IsBoxed p g) st.mailbox) is (sound.told.fits.grains.each g).boxed).0 in
    turn-of cache t0 t p g activation d deliveries boxed.record_of sound found is boxed.found boxed.is_open (nat_lt d.position (past boxed.record_of.handled)) (is_spent p) refl refl
