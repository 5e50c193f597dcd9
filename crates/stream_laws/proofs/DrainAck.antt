-- A drain acknowledges what a subscription has handled, and delivers once more: its resume then stands at
-- or past the cache's end.
use Rattle.stream_laws.proofs.Prelude.{◌≡◌, ℕ, suc, pred, ◌≤◌, max, not, nat_lt, true, false, List, [], ◌∷◌, length, Option, Some, None, if◌then◌else◌, refl, sym, ap, subst, arith, ◌∙◌, eq-eqb, le-ltb, lt-ltb, or_from, past, SubName, Token, after_ack, after_last_deliver, last_handled, grain_at, is_outstanding, is_unacknowledged, running_in, sub_at, token_at, waiting_in, with_sub, acknowledged, caught_up, handled_at, Reply, Ack, Deliver, Delivery, PlainPartition, RunningTurn, Subscription}
use Rattle.stream_model.specs.declared.reply.Reply.TheVariants as reply
use Rattle.stream_model.specs.Draining.{acknowledge, deliver_once_more}
use Rattle.stream_model.specs.Pulling.{ack, ack_of, ack_position}
use Rattle.stream_model.specs.Step.{step}
use Rattle.stream_laws.proofs.DrainBase.{IsSound, handled_since, told-step}
use Rattle.stream_laws.proofs.DrainDeliver.{deliver-nothing, next-none, set-sound}
use Rattle.stream_laws.proofs.DrainRule.{Meets, Tally, meets-ask, tally_after}
use Rattle.stream_laws.proofs.DrainServing.{IsSeen, ServingSound, serving-set}
use Rattle.stream_laws.proofs.DrainSums.{sum_open-set}
use Rattle.stream_laws.proofs.IdleGrains.{IsEmptied}
use Rattle.stream_laws.proofs.Invariant.{running_of}
use Rattle.stream_laws.proofs.LastHandled.{HasLast, handled_at-last, has-last}
use Rattle.stream_laws.proofs.Summary.{Summary}

-- what is handled is acknowledged too
abbrev pub IsAcked : PlainPartition → Subscription → Type 0
IsAcked p r = (p.high ≤ r.cursor) × (past r.handled ≤ r.resume)

-- the resume stands at or past the cache's end
abbrev pub IsSettled : PlainPartition → Subscription → Type 0
IsSettled p r = p.high ≤ r.resume

-- ---- Ack

pub ack-first : (p : PlainPartition) (s : SubName) (r : Subscription) (token : Token) (position : ℕ) (rest : List ℕ) → sub_at p s ≡ Some r → r.is_open ≡ true → handled_at p r token ≡ position ∷ rest
    → step p (Ack p.generation s token) ≡ (with_sub p s (acknowledged r position), reply.Acked)
unfolding step ack ack_of ack_position
ack-first p s r token position rest found is_open first =
    ap {B = PlainPartition × Reply} (λ b. if not b then (p, reply.StaleAgent p.generation) else ack_of p s token (sub_at p s)) (eq-eqb p.generation p.generation refl)
    ∙ ap (ack_of p s token) found
    ∙ ap {B = PlainPartition × Reply} (λ b. if not b then (p, reply.Closed) else ack_position p s r (handled_at p r token)) is_open
    ∙ ap (ack_position p s r) first

acked-sound : (cache : ℕ) (t0 : Summary) (t : Tally) (p : PlainPartition) (s : SubName) (r : Subscription) (token : Token) (changed : Subscription) → IsSound cache t0 t p → sub_at p s ≡ Some r → changed.is_open ≡ r.is_open
    → step p (Ack p.generation s token) ≡ (with_sub p s changed, reply.Acked) → IsSound cache t0 (tally_after t (Ack p.generation s token) reply.Acked) (with_sub p s changed)
acked-sound cache t0 t p s r token changed sound found same is =
    record {
      told = told-step cache t0 t p (Ack p.generation s token) (with_sub p s changed) reply.Acked is sound.told refl (λ x. refl) (λ x. omega arith) (sum_open-set (handled_since t0 t.said) s r changed p.subs found same ∙ sound.told.turns);
      idle = sound.idle;
    }

-- nothing is handled
meets-acked-none : (cache : ℕ) (t0 : Summary) (s : SubName) (t : Tally) (p : PlainPartition) (r : Subscription) → IsSound cache t0 t p → IsEmptied p → sub_at p s ≡ Some r → r.is_open ≡ true → IsSeen p r → r.handled ≡ []
    → Meets (ServingSound IsAcked cache t0 p s) t (acknowledge s p None)
unfolding acknowledge
meets-acked-none cache t0 s t p r sound empty found is_open seen none =
    let nothing : past r.handled ≡ 0 = ap past none in (
      sound,
      record {
        log = refl;
        high = refl;
        emptied = empty;
        others = λ x other. refl;
        now = r;
        found = found;
        is_open = is_open;
        fact = (seen, omega (arith, nothing));
      },
    )

-- the last handled position is acknowledged
meets-acked-last : (cache : ℕ) (t0 : Summary) (s : SubName) (t : Tally) (p : PlainPartition) (r : Subscription) → IsSound cache t0 t p → IsEmptied p → sub_at p s ≡ Some r → r.is_open ≡ true → IsSeen p r → HasLast 0 r.handled
    → Meets (ServingSound IsAcked cache t0 p s) t (acknowledge s p (Some (token_at p (pred (past r.handled)))))
unfolding acknowledge
meets-acked-last cache t0 s t p r sound empty found is_open seen last =
    let fits = sound.told.fits in
    let token = token_at p (pred (past r.handled)) in
    let first = handled_at-last t.said p r (running_of p s r) last fits.log (fits.subs s r found).in_turn in
    let is = ack-first p s r token last.last first.0 found is_open first.1 in
    meets-ask (ServingSound IsAcked cache t0 p s) t p (Ack p.generation s token) after_ack (with_sub p s (acknowledged r last.last)) reply.Acked is (
      acked-sound cache t0 t p s r token (acknowledged r last.last) sound found refl is,
      serving-set IsAcked p s (acknowledged r last.last) empty is_open (omega arith, omega (arith, last.past_last)),
    )

meets-acked : (cache : ℕ) (t0 : Summary) (s : SubName) (t : Tally) (p : PlainPartition) (r : Subscription) (handled : List ℕ) → IsSound cache t0 t p → IsEmptied p → sub_at p s ≡ Some r → r.is_open ≡ true → IsSeen p r → r.handled ≡ handled
    → Meets (ServingSound IsAcked cache t0 p s) t (acknowledge s p (last_handled p (Some r)))
meets-acked cache t0 s t p r [] sound empty found is_open seen is =
    let none : nat_lt 0 (length r.handled) ≡ false = ap (λ (xs : List ℕ). nat_lt 0 (length xs)) is in
    subst (λ b. Meets (ServingSound IsAcked cache t0 p s) t (acknowledge s p (if b then Some (token_at p (pred (past r.handled))) else None))) (sym none)
    (meets-acked-none cache t0 s t p r sound empty found is_open seen is)
meets-acked cache t0 s t p r (q ∷ handled) sound empty found is_open seen is =
    let some : nat_lt 0 (length r.handled) ≡ true = ap (λ (xs : List ℕ). nat_lt 0 (length xs)) is ∙ lt-ltb 0 (suc (length handled)) (omega arith) in
    subst (λ b. Meets (ServingSound IsAcked cache t0 p s) t (acknowledge s p (if b then Some (token_at p (pred (past r.handled))) else None))) (sym some)
    (meets-acked-last cache t0 s t p r sound empty found is_open seen (subst (HasLast 0) (sym is) (has-last 0 q handled)))

pub meets-acknowledge : (cache : ℕ) (t0 : Summary) (s : SubName) (t : Tally) (p : PlainPartition) (r : Subscription) → IsSound cache t0 t p → IsEmptied p → sub_at p s ≡ Some r → r.is_open ≡ true → IsSeen p r
    → Meets (ServingSound IsAcked cache t0 p s) t (acknowledge s p (last_handled p (sub_at p s)))
meets-acknowledge cache t0 s t p r sound empty found is_open seen =
    subst (λ (o : Option Subscription). Meets (ServingSound IsAcked cache t0 p s) t (acknowledge s p (last_handled p o))) (sym found)
    (meets-acked cache t0 s t p r r.handled sound empty found is_open seen refl)

-- ---- Deliver once more

not-outstanding : (p : PlainPartition) (s : SubName) (r : Subscription) → (grain_at p r.grain).mailbox ≡ [] → (grain_at p r.grain).running ≡ None → past r.handled ≤ r.resume → is_outstanding p s r ≡ false
not-outstanding p s r empty idle safe =
    let none : nat_lt 0 (length (waiting_in s (grain_at p r.grain).mailbox)) ≡ false = ap (λ (mailbox : List Delivery). nat_lt 0 (length (waiting_in s mailbox))) empty in
    let rests : nat_lt 0 (length (running_in s (grain_at p r.grain).running)) ≡ false = ap (λ (running : Option RunningTurn). nat_lt 0 (length (running_in s running))) idle in
    let acked : is_unacknowledged r ≡ false = le-ltb r.resume (past r.handled) safe in
    or_from (nat_lt 0 (length (waiting_in s (grain_at p r.grain).mailbox))) _ none (or_from (nat_lt 0 (length (running_in s (grain_at p r.grain).running))) (is_unacknowledged r) rests acked)

pub meets-deliver_once_more : (cache : ℕ) (t0 : Summary) (s : SubName) (t : Tally) (p : PlainPartition) (r : Subscription) → IsSound cache t0 t p → IsEmptied p → sub_at p s ≡ Some r → r.is_open ≡ true → IsAcked p r
    → Meets (ServingSound IsSettled cache t0 p s) t (deliver_once_more s p)
unfolding deliver_once_more
meets-deliver_once_more cache t0 s t p r sound empty found is_open acked =
    let is = deliver-nothing p s r found is_open (next-none p r acked.0) in
    let follows : (caught_up p s r).resume ≡ max r.cursor p.high = ap (λ b. if b then r.resume else max r.cursor p.high) (not-outstanding p s r (empty r.grain) (sound.idle r.grain) acked.1) in
    meets-ask (ServingSound IsSettled cache t0 p s) t p (Deliver p.generation s) after_last_deliver (with_sub p s (caught_up p s r)) reply.Nothing is
    (set-sound cache t0 t p s r (caught_up p s r) reply.Nothing sound found refl is, serving-set IsSettled p s (caught_up p s r) empty is_open (omega (arith, follows)))
