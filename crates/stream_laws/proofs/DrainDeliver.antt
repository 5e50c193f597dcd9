-- Deliver, as a drain asks for it, and what it leaves.
use Rattle.stream_laws.proofs.Prelude.{◌≡◌, ℕ, suc, ◌+◌, ◌-◌, ◌<◌, ◌≤◌, ◌&&◌, not, nat_le, Bool, true, false, List, [], ◌∷◌, ◌++◌, length, take, drop, Option, Some, None, if◌then◌else◌, refl, ap, arith, length-take, ◌∙◌, eq-eqb, grain_equality, is_owed, same_grain, first_at, value_at, Event, SubName, MAILBOX_PLACES, with_value-at, between, grain_at, is_spent, next_position, sub_at, token_at, with_sub, caught_up, delivered, woken, Reply, Deliver, Delivery, Grain, PlainPartition, Subscription}
use Rattle.stream_model.specs.declared.reply.Reply.TheVariants as reply
use Rattle.stream_model.specs.Pulling.{deliver, deliver_position, deliver_to}
use Rattle.stream_model.specs.Step.{step}
use Rattle.stream_laws.proofs.DrainBase.{IsSound, handled_since, told-step}
use Rattle.stream_laws.proofs.DrainBegin.{ready_grain}
use Rattle.stream_laws.proofs.DrainRule.{Tally, tally_after}
use Rattle.stream_laws.proofs.DrainSums.{sum_open-set}
use Rattle.stream_laws.proofs.IdleGrains.{each-grain}
use Rattle.stream_model.proofs.Lookups.{first_at-le, first_at-within}
use Rattle.stream_laws.proofs.Summary.{Summary}

-- ---- the next position

-- it is at or past the cursor and below high
pub next-bounds : (p : PlainPartition) (r : Subscription) (position : ℕ) → next_position p r ≡ Some position → (r.cursor ≤ position) × (position < p.high)
next-bounds p r position is =
    let passes : Event → Bool = λ event. is_owed r.stream r.start event in
    let stretch = between p.log r.cursor p.high in
    let le = first_at-le passes r.cursor position stretch is in
    let at : position ≡ r.cursor + (position - r.cursor) = omega arith in
    let within = first_at-within passes r.cursor (position - r.cursor) stretch (is ∙ ap {B = Option ℕ} Some at) in
    let size : length stretch ≤ p.high - r.cursor = omega (arith, length-take (p.high - r.cursor) (drop r.cursor p.log)) in
    (le, omega arith)

-- past high there is none
pub next-none : (p : PlainPartition) (r : Subscription) → p.high ≤ r.cursor → next_position p r ≡ None
next-none p r seen =
    let nothing : p.high - r.cursor ≡ 0 = omega arith in
    ap (λ n. first_at (λ event. is_owed r.stream r.start event) r.cursor (take n (drop r.cursor p.log))) nothing

-- ---- the step

deliver-current : (p : PlainPartition) (s : SubName) (r : Subscription) (next : Option ℕ) → sub_at p s ≡ Some r → r.is_open ≡ true → next_position p r ≡ next
    → step p (Deliver p.generation s) ≡ deliver_position p s r (grain_at p r.grain) next
unfolding step deliver deliver_to
deliver-current p s r next found is_open is_next =
    ap {B = PlainPartition × Reply} (λ b. if not b then (p, reply.StaleAgent p.generation) else deliver_to p s (sub_at p s)) (eq-eqb p.generation p.generation refl)
    ∙ ap (deliver_to p s) found
    ∙ ap {B = PlainPartition × Reply} (λ b. if not b then (p, reply.Closed) else deliver_position p s r (grain_at p r.grain) (next_position p r)) is_open
    ∙ ap (deliver_position p s r (grain_at p r.grain)) is_next

pub deliver-nothing : (p : PlainPartition) (s : SubName) (r : Subscription) → sub_at p s ≡ Some r → r.is_open ≡ true → next_position p r ≡ None
    → step p (Deliver p.generation s) ≡ (with_sub p s (caught_up p s r), reply.Nothing)
unfolding deliver_position
deliver-nothing p s r found is_open none = deliver-current p s r None found is_open none

abbrev where_room : PlainPartition → SubName → Subscription → Grain → ℕ → List Delivery → Bool → PlainPartition × Reply
where_room p s r st position mailbox wanting =
    if nat_le MAILBOX_PLACES (length mailbox) then (p, reply.MailboxFull)
    else if wanting then (p, reply.Spent)
    else (delivered p s r st position, reply.Delivered (token_at p position))

deliver-room : (p : PlainPartition) (s : SubName) (r : Subscription) (position : ℕ) (wanting : Bool) → sub_at p s ≡ Some r → r.is_open ≡ true → next_position p r ≡ Some position
    → (grain_at p r.grain).mailbox ≡ [] → (not (grain_at p r.grain).active && is_spent p) ≡ wanting
    → step p (Deliver p.generation s) ≡ where_room p s r (grain_at p r.grain) position [] wanting
unfolding deliver_position
deliver-room p s r position wanting found is_open next empty is_wanting =
    deliver-current p s r (Some position) found is_open next
    ∙ ap (λ mailbox. where_room p s r (grain_at p r.grain) position mailbox (not (grain_at p r.grain).active && is_spent p)) empty
    ∙ ap (where_room p s r (grain_at p r.grain) position []) is_wanting

pub deliver-spent : (p : PlainPartition) (s : SubName) (r : Subscription) (position : ℕ) → sub_at p s ≡ Some r → r.is_open ≡ true → next_position p r ≡ Some position
    → (grain_at p r.grain).mailbox ≡ [] → (not (grain_at p r.grain).active && is_spent p) ≡ true
    → step p (Deliver p.generation s) ≡ (p, reply.Spent)
deliver-spent p s r position found is_open next empty wanting = deliver-room p s r position true found is_open next empty wanting

pub deliver-delivered : (p : PlainPartition) (s : SubName) (r : Subscription) (position : ℕ) → sub_at p s ≡ Some r → r.is_open ≡ true → next_position p r ≡ Some position
    → (grain_at p r.grain).mailbox ≡ [] → (not (grain_at p r.grain).active && is_spent p) ≡ false
    → step p (Deliver p.generation s) ≡ (delivered p s r (grain_at p r.grain) position, reply.Delivered (token_at p position))
deliver-delivered p s r position found is_open next empty some = deliver-room p s r position false found is_open next empty some

-- ---- what it leaves

-- a record set by Deliver that is open where the old one was
pub set-sound : (cache : ℕ) (t0 : Summary) (t : Tally) (p : PlainPartition) (s : SubName) (r : Subscription) (changed : Subscription) (answer : Reply) → IsSound cache t0 t p → sub_at p s ≡ Some r → changed.is_open ≡ r.is_open
    → step p (Deliver p.generation s) ≡ (with_sub p s changed, answer) → IsSound cache t0 (tally_after t (Deliver p.generation s) answer) (with_sub p s changed)
set-sound cache t0 t p s r changed answer sound found same is =
    record {
      told = told-step cache t0 t p (Deliver p.generation s) (with_sub p s changed) answer is sound.told refl (λ x. refl) (λ x. omega arith) (sum_open-set (handled_since t0 t.said) s r changed p.subs found same ∙ sound.told.turns);
      idle = sound.idle;
    }

-- the delivery alone waits for the grain, which is active
pub delivered-ready : (p : PlainPartition) (s : SubName) (r : Subscription) (position : ℕ) → (grain_at p r.grain).mailbox ≡ [] → (grain_at p r.grain).running ≡ None
    → value_at same_grain r.grain (delivered p s r (grain_at p r.grain) position).grains ≡ Some (ready_grain (woken (grain_at p r.grain) s position).activation (record { sub = s; position = position }) [])
delivered-ready p s r position empty idle =
    let st = grain_at p r.grain in
    let d : Delivery = record { sub = s; position = position } in
    let same : woken st s position ≡ ready_grain (woken st s position).activation d [] = λ i. record { activation = (woken st s position).activation; active = true; mailbox = empty i ++ d ∷ []; running = idle i } in
    with_value-at same_grain grain_equality r.grain (woken st s position) p.grains ∙ ap {B = Option Grain} Some same

pub delivered-sound : (cache : ℕ) (t0 : Summary) (t : Tally) (p : PlainPartition) (s : SubName) (r : Subscription) (position : ℕ) → IsSound cache t0 t p → sub_at p s ≡ Some r
    → step p (Deliver p.generation s) ≡ (delivered p s r (grain_at p r.grain) position, reply.Delivered (token_at p position))
    → IsSound cache t0 (tally_after t (Deliver p.generation s) (reply.Delivered (token_at p position))) (delivered p s r (grain_at p r.grain) position)
delivered-sound cache t0 t p s r position sound found is =
    let q = delivered p s r (grain_at p r.grain) position in
    record {
      told = told-step cache t0 t p (Deliver p.generation s) q (reply.Delivered (token_at p position)) is sound.told refl (λ x. refl) (λ x. omega arith)
          (sum_open-set (handled_since t0 t.said) s r (record r { cursor = suc position }) p.subs found refl ∙ sound.told.turns);
      idle = each-grain (λ (st : Grain). st.running ≡ None) q p.grains r.grain (woken (grain_at p r.grain) s position) refl (sound.idle r.grain) (λ k other. sound.idle k);
    }
