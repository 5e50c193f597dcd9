-- A subscription that is settled: to serve it changes nothing.
use Rattle.step_core.proofs.Prelude.{◌≡◌, ◌∙◌, ap, sym, refl, subst, ℕ, suc, pred, ◌-◌, ◌≤◌, ◌==◌, max, nat_le, nat_lt, Bool, true, false, List, [], ◌∷◌, length, Option, Some, None, Ok, arith, and_parts, eqb-true, le-ltb, leb-true, ltb-false, lt-ltb, not-true, sub_equality, same_sub, past, GrainId, SubName, deliver-nothing, next-none, running_of, reached-after, with_value-at, after_ack, after_last_deliver, deliver_up_to, last_handled, is_outstanding, next_position, sub_at, token_at, with_sub, acknowledged, Reply, IsReached, Ack, Deliver, PlainPartition, Subscription, if◌then◌else◌}
use Rattle.std.proofs.Math.Bool.{or-false}
use Rattle.stream_model.specs.declared.reply.Reply.TheVariants as reply
use Rattle.stream_model.specs.Draining.{acknowledge, after_deliver, deliver_all, deliver_once_more, serve}
use Rattle.stream_model.specs.Positions.{is_unacknowledged}
use Rattle.stream_model.specs.Pulling.{caught_up}
use Rattle.stream_model.specs.Step.{step}
use Rattle.stream_laws.proofs.DrainAck.{ack-first}
use Rattle.stream_laws.proofs.FitsOne.{with_value-same}
use Rattle.stream_laws.proofs.LastHandled.{HasLast, handled_at-last, has-last}
use Rattle.step_core.specs.DrainPhases.{Ends, after_deliveries}
use Rattle.step_core.specs.Serving.{is_held, is_settled, is_settled_in, serve_up_to, IsCaughtUp}
use Rattle.step_core.proofs.DrainReplies.{deliver-told}
use Rattle.step_core.proofs.DrainSteps.{ends-done, ends-last, ends-then}
use Rattle.step_core.proofs.OnceOps.{with_value-twice}
use Rattle.step_core.proofs.Shared.{history-of}

record IsSettled (p : PlainPartition) (s : SubName) (r : Subscription) : Type 0 where
  pub found : sub_at p s ≡ Some r
  pub is_open : r.is_open ≡ true
  pub seen : p.high ≤ r.cursor
  pub level : r.resume ≡ r.cursor
  pub acked : past r.handled ≤ r.resume

settled-as : (p : PlainPartition) (s : SubName) (r : Subscription) → sub_at p s ≡ Some r → is_settled p.high r ≡ true → IsSettled p s r
settled-as p s r found is =
    let parts = and_parts r.is_open _ is in
    let more = and_parts (nat_le p.high r.cursor) _ parts.1 in
    let last = and_parts (r.resume == r.cursor) _ more.1 in
    record {
      found = found;
      is_open = parts.0;
      seen = leb-true p.high r.cursor more.0;
      level = eqb-true r.resume r.cursor last.0;
      acked = ltb-false r.resume (past r.handled) (not-true (is_unacknowledged r) last.1);
    }

-- the value that stands there put there again
with_sub-same : (p : PlainPartition) (s : SubName) (r : Subscription) → sub_at p s ≡ Some r → with_sub p s r ≡ p
with_sub-same p s r found = ap (λ subs. record p { subs = subs }) (with_value-same same_sub s r p.subs found)

settled-found : (p : PlainPartition) (s : SubName) (o : Option Subscription) → sub_at p s ≡ o → is_settled_in p.high o ≡ true → (r : Subscription) × IsSettled p s r
settled-found p s None found is = absurd (cc)
settled-found p s (Some r) found is = (r, settled-as p s r found is)

resume-by : (out : Bool) (stays follows end : ℕ) → (out ≡ true → stays ≡ end) → follows ≡ end → (if out then stays else follows) ≡ end
resume-by true stays follows end level follow = level refl
resume-by false stays follows end level follow = follow

-- what is left to do after its deliveries, where the cache has nothing for it: the last of what it has handled is
-- acknowledged, and one more delivery finds nothing
module _ (p : PlainPartition) (s : SubName) (r : Subscription) (reached : IsReached p) (found : sub_at p s ≡ Some r) (is_open : r.is_open ≡ true)
    (seen : p.high ≤ r.cursor) (within : past r.handled ≤ r.cursor) (rests : is_held p s r ≡ true → r.resume ≡ r.cursor) where
  abbrev acked : Subscription
  acked = record r { resume = max r.resume (past r.handled) }

  abbrev p2 : PlainPartition
  p2 = with_sub p s acked

  abbrev q : PlainPartition
  q = with_sub p s (record r { resume = r.cursor })

  acks : (last : HasLast 0 r.handled) → (p2, reply.Acked) ≡ step p (Ack p.generation s (token_at p (pred (past r.handled))))
  acks last =
      let history = history-of p reached in
      let fits = history.fits.subs s r found in
      let first = handled_at-last history.past p r (running_of p s r) last history.fits.log fits.in_turn in
      let end : suc last.last ≡ past r.handled = sym last.past_last in
      let resume : max r.resume (suc last.last) ≡ max r.resume (past r.handled) = ap (max r.resume) end in
      let order = (fits.served is_open).resume_cursor in
      let cursor : max r.cursor (max r.resume (suc last.last)) ≡ r.cursor = omega (arith, end, within, order) in
      let is : acknowledged r last.last ≡ acked = λ i. record r { resume = resume i; cursor = cursor i } in
      sym (ack-first p s r (token_at p (pred (past r.handled))) last.last first.0 found is_open first.1 ∙ ap {B = PlainPartition × Reply} (λ r. (with_sub p s r, reply.Acked)) is)

  ends-acked : (handled : List ℕ) → r.handled ≡ handled → Ends p p2 (Some None) (acknowledge s p (last_handled p (Some r)))
  unfolding acknowledge
  ends-acked [] is =
      let none : nat_lt 0 (length r.handled) ≡ false = ap (λ (xs : List ℕ). nat_lt 0 (length xs)) is in
      let nothing : past r.handled ≡ 0 = ap past is in
      let same : max r.resume (past r.handled) ≡ r.resume = omega (arith, nothing) in
      subst (λ b. Ends p p2 (Some None) (acknowledge s p (if b then Some (token_at p (pred (past r.handled))) else None))) (sym none)
      (subst (λ (x : PlainPartition). Ends p x (Some None) (acknowledge s p None)) (sym (ap (λ n. with_sub p s (record r { resume = n })) same ∙ with_sub-same p s r found)) (ends-done p (acknowledge s p None) None refl))
  ends-acked (position ∷ handled) is =
      let some : nat_lt 0 (length r.handled) ≡ true = ap (λ (xs : List ℕ). nat_lt 0 (length xs)) is ∙ lt-ltb 0 (suc (length handled)) (omega arith) in
      let token = token_at p (pred (past r.handled)) in
      subst (λ b. Ends p p2 (Some None) (acknowledge s p (if b then Some token else None))) (sym some)
      (ends-last p p2 None (Ack p.generation s token) reply.Acked after_ack (acks (subst (HasLast 0) (sym is) (has-last 0 position handled))) refl)

  caught : caught_up p2 s acked ≡ record r { resume = r.cursor }
  caught =
      let handled : is_unacknowledged acked ≡ false = le-ltb (max r.resume (past r.handled)) (past r.handled) (omega arith) in
      let free : is_outstanding p2 s acked ≡ is_held p s r = rw (handled, or-false) refl in
      let most : max r.cursor p.high ≡ r.cursor = omega (arith, seen) in
      let resume = resume-by (is_outstanding p2 s acked) acked.resume (max r.cursor p.high) r.cursor (λ out. let level = rests (sym free ∙ out) in omega (arith, level, within)) most in
      λ i. record r { cursor = most i; resume = resume i }

  once_more : (q, reply.Nothing) ≡ step p2 (Deliver p2.generation s)
  once_more =
      sym (deliver-nothing p2 s acked (with_value-at same_sub sub_equality s acked p.subs) is_open (next-none p2 acked seen)
      ∙ ap {B = PlainPartition × Reply} (λ r. (with_sub p2 s r, reply.Nothing)) caught
      ∙ ap {B = PlainPartition × Reply} (λ subs. (record p { subs = subs }, reply.Nothing)) (with_value-twice same_sub sub_equality s acked (record r { resume = r.cursor }) p.subs))

  ends-after : Ends p q (Some None) (after_deliveries s p)
  unfolding deliver_once_more
  ends-after =
      ends-then p p2 q (Some None) (acknowledge s p (last_handled p (sub_at p s))) (deliver_once_more s)
      (subst (λ (o : Option Subscription). Ends p p2 (Some None) (acknowledge s p (last_handled p o))) (sym found) (ends-acked r.handled refl))
      (ends-last p2 q None (Deliver p2.generation s) reply.Nothing after_last_deliver once_more refl)

-- One that the cache has nothing for, and that has handled nothing past its cursor and the end of the cache. Where something
-- of it is on its way, its resume stands there already.
module _ (p : PlainPartition) (s : SubName) (r : Subscription) (reached : IsReached p) (found : sub_at p s ≡ Some r) (is_open : r.is_open ≡ true)
    (none : next_position p r ≡ None) (rests : is_held p s r ≡ true → r.resume ≡ max r.cursor p.high) (within : past r.handled ≤ max r.cursor p.high) where
  abbrev top : ℕ
  top = max r.cursor p.high

  abbrev first : Subscription
  first = caught_up p s r

  abbrev x : PlainPartition
  x = with_sub p s first

  delivers : step p (Deliver p.generation s) ≡ (x, reply.Nothing)
  delivers = deliver-nothing p s r found is_open none

  held-first : is_held p s r ≡ true → first.resume ≡ top
  held-first held = resume-by (is_outstanding p s r) r.resume top top (λ _. rests held) refl

  pub served-caught : (n : ℕ) (g : GrainId) → Ends p (with_sub p s (record r { cursor = top; resume = top })) (Some None) (serve_up_to n s g p)
  served-caught n g =
      ends-then p x (with_sub p s (record r { cursor = top; resume = top })) (Some None) (deliver_up_to n s g p) (after_deliveries s)
      (ends-last p x None (Deliver p.generation s) reply.Nothing (λ y answer. after_deliver n s g y answer) (sym delivers) (deliver-told n s g x reply.Nothing))
      (subst (λ subs. Ends x (record p { subs = subs }) (Some None) (after_deliveries s x)) (with_value-twice same_sub sub_equality s first (record r { cursor = top; resume = top }) p.subs)
      (ends-after x s first (reached-after p x (Deliver p.generation s) (Ok reply.Nothing) (sym delivers) reached) (with_value-at same_sub sub_equality s first p.subs) is_open (omega arith) within held-first))

-- to serve a settled one changes nothing
module _ (p : PlainPartition) (s : SubName) (reached : IsReached p) (is : is_settled_in p.high (sub_at p s) ≡ true) where
  settled : (r : Subscription) × IsSettled p s r
  settled = settled-found p s (sub_at p s) refl is

  abbrev r : Subscription
  r = settled.0

  stays : (cursor : ℕ) → cursor ≡ r.cursor → with_sub p s (record r { cursor = cursor; resume = cursor }) ≡ p
  stays cursor same =
      let level : cursor ≡ r.resume = same ∙ sym settled.1.level in
      let as_before : record r { cursor = cursor; resume = cursor } ≡ r = λ i. record r { cursor = same i; resume = level i } in
      ap (with_sub p s) as_before ∙ with_sub-same p s r settled.1.found

  acked_within : past r.handled ≤ r.cursor
  acked_within = let acked = settled.1.acked in let level = settled.1.level in omega (arith, acked, level)

  pub serves-settled : Ends p p (Some None) (serve s p (sub_at p s))
  unfolding serve deliver_all
  serves-settled =
      let seen = settled.1.seen in
      let end : max r.cursor p.high ≡ r.cursor = omega (arith, seen) in
      subst (λ (o : Option Subscription). Ends p p (Some None) (serve s p o)) (sym settled.1.found)
      (subst (λ (y : PlainPartition). Ends p y (Some None) (serve s p (Some r))) (stays (max r.cursor p.high) end)
      (served-caught p s r reached settled.1.found settled.1.is_open (next-none p r seen) (λ _. settled.1.level ∙ sym end) (let within = acked_within in omega (arith, within)) (p.high - r.cursor) r.grain))

  pub settles-settled : Ends p p (Some None) (after_deliveries s p)
  settles-settled =
      subst (λ (y : PlainPartition). Ends p y (Some None) (after_deliveries s p)) (stays r.cursor refl)
      (ends-after p s r reached settled.1.found settled.1.is_open settled.1.seen acked_within (λ _. settled.1.level))

-- and then it is served
pub serves-caught-up : (p q : PlainPartition) (s : SubName) → IsCaughtUp p q s → Ends p q (Some None) (serve s p (sub_at p s))
unfolding serve deliver_all
serves-caught-up p q s caught =
    let r = caught.record_of in
    subst (λ (o : Option Subscription). Ends p q (Some None) (serve s p o)) (sym caught.found) (caught.served (p.high - r.cursor) r.grain)
