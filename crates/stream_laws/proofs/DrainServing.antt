-- A drain delivers all that the cache has for a subscription, each event with its turn.
use Rattle.stream_laws.proofs.Prelude.{◌≡◌, ℕ, zero, suc, ◌-◌, ◌≤◌, ◌&&◌, not, Bool, true, false, [], Option, Some, None, refl, sym, ap, subst, arith, ◌∙◌, same_grain-equal, sub_equality, same_grain, same_sub, GrainId, SubName, with_value-at, with_value-other, deliver_up_to, grain_at, is_spent, next_position, sub_at, token_at, with_sub, caught_up, delivered, woken, Deliver, Delivery, Grain, PlainPartition, Subscription}
use Rattle.stream_model.specs.declared.reply.Reply.TheVariants as reply
use Rattle.stream_model.specs.Draining.{after_deliver, deliver_all, take_turn}
use Rattle.stream_laws.proofs.DrainBase.{IsSound}
use Rattle.stream_laws.proofs.DrainDeliver.{deliver-delivered, deliver-nothing, deliver-spent, delivered-ready, delivered-sound, next-bounds, set-sound}
use Rattle.stream_laws.proofs.DrainRule.{Meets, Tally, meets-and_then, meets-ask, meets-weaken, tally_after}
use Rattle.stream_laws.proofs.DrainTurn.{IsTurned, TurnedSound, meets-take_turn}
use Rattle.stream_laws.proofs.IdleGrains.{IsEmptied, grain-other}
use Rattle.stream_laws.proofs.Summary.{Summary}

-- what the service of a subscription leaves: its record has P, and the others are as they were
pub record IsServing (P : PlainPartition → Subscription → Type 0) (p q : PlainPartition) (s : SubName) : Type 0 where
  pub log : q.log ≡ p.log
  pub high : q.high ≡ p.high
  pub emptied : IsEmptied q
  pub others : (x : SubName) → same_sub x s ≡ false → sub_at q x ≡ sub_at p x
  pub now : Subscription
  pub found : sub_at q s ≡ Some now
  pub is_open : now.is_open ≡ true
  pub fact : P q now

abbrev pub ServingSound : (PlainPartition → Subscription → Type 0) → ℕ → Summary → PlainPartition → SubName → Tally → PlainPartition → Type 0
ServingSound P cache t0 p s u q = IsSound cache t0 u q × IsServing P p q s

-- one part of the service after another
pub serving-later : (P Q : PlainPartition → Subscription → Type 0) (p q r : PlainPartition) (s : SubName) → IsServing P p q s → IsServing Q q r s → IsServing Q p r s
serving-later P Q p q r s first second =
    record {
      log = second.log ∙ first.log;
      high = second.high ∙ first.high;
      emptied = second.emptied;
      others = λ x other. second.others x other ∙ first.others x other;
      now = second.now;
      found = second.found;
      is_open = second.is_open;
      fact = second.fact;
    }

-- its record set
pub serving-set : (P : PlainPartition → Subscription → Type 0) (p : PlainPartition) (s : SubName) (r : Subscription) → IsEmptied p → r.is_open ≡ true → P (with_sub p s r) r → IsServing P p (with_sub p s r) s
serving-set P p s r empty is_open fact =
    record {
      log = refl;
      high = refl;
      emptied = empty;
      others = λ x other. with_value-other same_sub sub_equality x s r p.subs other;
      now = r;
      found = with_value-at same_sub sub_equality s r p.subs;
      is_open = is_open;
      fact = fact;
    }

-- the cursor has seen all that the cache has
abbrev pub IsSeen : PlainPartition → Subscription → Type 0
IsSeen p r = p.high ≤ r.cursor

-- its grain is the one that it was, and its cursor stands past this position
abbrev IsHanded : Subscription → ℕ → PlainPartition → Subscription → Type 0
IsHanded r position p now = (now.grain ≡ r.grain) × (now.cursor ≡ suc position)

-- a delivery and its turn
handed : (p q : PlainPartition) (s : SubName) (r : Subscription) (position : ℕ) → IsEmptied p → r.is_open ≡ true
    → IsTurned (delivered p s r (grain_at p r.grain) position) q r.grain (record { sub = s; position = position }) [] → IsServing (IsHanded r position) p q s
handed p q s r position empty is_open turned =
    let p1 = delivered p s r (grain_at p r.grain) position in
    let r1 = record r { cursor = suc position } in
    let like = turned.sub r1 (with_value-at same_sub sub_equality s r1 p.subs) in
    record {
      log = turned.log;
      high = turned.high;
      emptied = λ k.
          (elim (same_grain k r.grain) as (λ b. same_grain k r.grain ≡ b → (grain_at q k).mailbox ≡ []) [
            | true ↦ λ same. subst (λ k. (grain_at q k).mailbox ≡ []) (sym (same_grain-equal k r.grain same)) turned.mailbox
            | false ↦ λ other. turned.mailboxes k other ∙ ap (λ (st : Grain). st.mailbox) (grain-other p1 p.grains k r.grain (woken (grain_at p r.grain) s position) refl other) ∙ empty k
          ]) refl;
      others = λ x other. turned.others x other ∙ with_value-other same_sub sub_equality x s r1 p.subs other;
      now = like.now;
      found = like.found;
      is_open = like.is_open ∙ is_open;
      fact = (like.grain, like.cursor);
    }

-- that it leaves the cursor at or past high, from each state that has this much left
abbrev Delivers : ℕ → Summary → ℕ → SubName → Type 0
Delivers cache t0 n s =
    (t : Tally) (p : PlainPartition) (r : Subscription) (g : GrainId) → IsSound cache t0 t p → IsEmptied p → sub_at p s ≡ Some r → r.is_open ≡ true → r.grain ≡ g → p.high - r.cursor ≤ n
    → Meets (ServingSound IsSeen cache t0 p s) t (deliver_up_to n s g p)

-- nothing is left
meets-nothing : (cache : ℕ) (t0 : Summary) (n : ℕ) (s : SubName) (t : Tally) (p : PlainPartition) (r : Subscription) (g : GrainId) → IsSound cache t0 t p → IsEmptied p → sub_at p s ≡ Some r → r.is_open ≡ true → next_position p r ≡ None
    → Meets (ServingSound IsSeen cache t0 p s) t (deliver_up_to n s g p)
unfolding after_deliver
meets-nothing cache t0 n s t p r g sound empty found is_open none =
    let is = deliver-nothing p s r found is_open none in
    meets-ask (ServingSound IsSeen cache t0 p s) t p (Deliver p.generation s) (λ q answer. after_deliver n s g q answer) (with_sub p s (caught_up p s r)) reply.Nothing is
    (set-sound cache t0 t p s r (caught_up p s r) reply.Nothing sound found refl is, serving-set IsSeen p s (caught_up p s r) empty is_open (omega arith))

-- no rise is left
meets-spent : (cache : ℕ) (t0 : Summary) (n : ℕ) (s : SubName) (t : Tally) (p : PlainPartition) (r : Subscription) (g : GrainId) (position : ℕ) → IsEmptied p → sub_at p s ≡ Some r → r.is_open ≡ true → next_position p r ≡ Some position
    → (not (grain_at p r.grain).active && is_spent p) ≡ true → Meets (ServingSound IsSeen cache t0 p s) t (deliver_up_to n s g p)
unfolding after_deliver
meets-spent cache t0 n s t p r g position empty found is_open next wanting =
    meets-ask (ServingSound IsSeen cache t0 p s) t p (Deliver p.generation s) (λ q answer. after_deliver n s g q answer) p reply.Spent (deliver-spent p s r position found is_open next (empty r.grain) wanting) tt

-- a delivery, its turn, and the rest
meets-delivered : (cache : ℕ) (t0 : Summary) (n : ℕ) (s : SubName) (t : Tally) (p : PlainPartition) (r : Subscription) (position : ℕ) → IsSound cache t0 t p → IsEmptied p → sub_at p s ≡ Some r → r.is_open ≡ true → p.high - r.cursor ≤ suc n → next_position p r ≡ Some position
    → (not (grain_at p r.grain).active && is_spent p) ≡ false → Delivers cache t0 n s → Meets (ServingSound IsSeen cache t0 p s) t (deliver_up_to (suc n) s r.grain p)
unfolding after_deliver
meets-delivered cache t0 n s t p r position sound empty found is_open enough next some rest =
    let is = deliver-delivered p s r position found is_open next (empty r.grain) some in
    let p1 = delivered p s r (grain_at p r.grain) position in
    let d : Delivery = record { sub = s; position = position } in
    let answer = reply.Delivered (token_at p position) in
    let t1 = tally_after t (Deliver p.generation s) answer in
    let bounds = next-bounds p r position next in
    meets-ask (ServingSound IsSeen cache t0 p s) t p (Deliver p.generation s) (λ q answer. after_deliver (suc n) s r.grain q answer) p1 answer is
    (meets-and_then (TurnedSound cache t0 p1 r.grain d []) (ServingSound IsSeen cache t0 p s) t1 (take_turn r.grain p1) (deliver_up_to n s r.grain)
    (meets-take_turn cache t0 t1 p1 r.grain (woken (grain_at p r.grain) s position).activation d [] (delivered-sound cache t0 t p s r position sound found is) (delivered-ready p s r position (empty r.grain) (sound.idle r.grain)))
    (λ u q turned.
    let hand = handed p q s r position empty is_open turned.1 in
    let least : q.high - hand.now.cursor ≤ n = omega (arith, hand.high, hand.fact.1, bounds.0, bounds.1, enough) in
    meets-weaken (ServingSound IsSeen cache t0 q s) (ServingSound IsSeen cache t0 p s) u (deliver_up_to n s r.grain q)
    (λ v w served. (served.0, serving-later (IsHanded r position) IsSeen p q w s hand served.1))
    (rest u q hand.now r.grain turned.0 hand.emptied hand.found hand.is_open hand.fact.0 least)))

meets-next : (cache : ℕ) (t0 : Summary) (n : ℕ) (s : SubName) (t : Tally) (p : PlainPartition) (r : Subscription) (position : ℕ) (wanting : Bool) → IsSound cache t0 t p → IsEmptied p → sub_at p s ≡ Some r → r.is_open ≡ true → p.high - r.cursor ≤ suc n → next_position p r ≡ Some position
    → (not (grain_at p r.grain).active && is_spent p) ≡ wanting → Delivers cache t0 n s → Meets (ServingSound IsSeen cache t0 p s) t (deliver_up_to (suc n) s r.grain p)
meets-next cache t0 n s t p r position true sound empty found is_open enough next wanting rest = meets-spent cache t0 (suc n) s t p r r.grain position empty found is_open next wanting
meets-next cache t0 n s t p r position false sound empty found is_open enough next wanting rest = meets-delivered cache t0 n s t p r position sound empty found is_open enough next wanting rest

meets-delivering : (cache : ℕ) (t0 : Summary) (n : ℕ) (s : SubName) → Delivers cache t0 n s
meets-delivering cache t0 zero s t p r g sound empty found is_open is_grain enough =
    (elim (next_position p r) as (λ (o : Option ℕ). next_position p r ≡ o → Meets (ServingSound IsSeen cache t0 p s) t (deliver_up_to zero s g p)) [
      | None ↦ λ none. meets-nothing cache t0 zero s t p r g sound empty found is_open none
      | Some position ↦ λ next. let bounds = next-bounds p r position next in absurd (omega (arith, bounds.0, bounds.1, enough))
    ]) refl
meets-delivering cache t0 (suc n) s t p r g sound empty found is_open is_grain enough =
    (elim (next_position p r) as (λ (o : Option ℕ). next_position p r ≡ o → Meets (ServingSound IsSeen cache t0 p s) t (deliver_up_to (suc n) s g p)) [
      | None ↦ λ none. meets-nothing cache t0 (suc n) s t p r g sound empty found is_open none
      | Some position ↦ λ next.
          subst (λ g. Meets (ServingSound IsSeen cache t0 p s) t (deliver_up_to (suc n) s g p)) is_grain
          (meets-next cache t0 n s t p r position (not (grain_at p r.grain).active && is_spent p) sound empty found is_open enough next refl (meets-delivering cache t0 n s))
    ]) refl

-- all that the cache has
pub meets-deliver_all : (cache : ℕ) (t0 : Summary) (s : SubName) (t : Tally) (p : PlainPartition) (r : Subscription) → IsSound cache t0 t p → IsEmptied p → sub_at p s ≡ Some r → r.is_open ≡ true → Meets (ServingSound IsSeen cache t0 p s) t (deliver_all s r p)
unfolding deliver_all
meets-deliver_all cache t0 s t p r sound empty found is_open = meets-delivering cache t0 (p.high - r.cursor) s t p r r.grain sound empty found is_open refl (omega arith)
