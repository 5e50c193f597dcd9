-- Queues that are asked one after another whether they are quiet.
use Rattle.queue_callers.proofs.Prelude.{after, replied, QueuePass, ◌≡◌, ◌⊎◌, ℕ, zero, suc, ◌+◌, inl, inr, List, [], ◌∷◌, length, Some, None, Result, Ok, Err, refl, sym, ap, subst, ◌∙◌, arith, add-one, length-map, none-some, AllZip, unwrap_or, slice_get, slice_set, Reply, PlainPartition, Refusal}
use Rattle.stream_model.specs.declared.op.Op.TheVariants as op
use Rattle.stream_model.specs.declared.reply.Pending.{Pending}
use Rattle.stream_model.specs.declared.reply.Reply.TheVariants as reply
use Rattle.stream_model.specs.Looks.{pending_in, quiet, quiet_reply}
use Rattle.stream_model.specs.Step.{step}
use Rattle.queue_callers.specs.Calls.{CallerCalls, turnstiles}
use Rattle.queue_callers.specs.declared.asking.Quiet.{Quiet}
use Rattle.queue_callers.specs.declared.asking.Quiet.TheVariants.{All, NotQuiet}
use Rattle.queue_callers.specs.Asking.{Asks, AsksQuiet, AsksUpTo, IsQuiet, pending_of}
use Rattle.silo_operators.proofs.Making.{called-reply}
use Rattle.silo_operators.proofs.Rows.{zip-refl, zip-weaker}

-- a look for quiet is answered by that, and changes nothing
pub look-replies : (p : PlainPartition) → replied p op.Quiet ≡ quiet p
unfolding step
look-replies p = refl

pub look-keeps : (p : PlainPartition) → after p op.Quiet ≡ p
unfolding step
look-keeps p = refl

-- it is quiet, or says why not
abbrev pub IsLook : Reply → Type 0
IsLook r = (r ≡ reply.IsQuiet) ⊎ ((why : Pending) × (r ≡ reply.NotQuiet why))

quiet-look : (p : PlainPartition) → IsLook (quiet p)
unfolding quiet
quiet-look p = elim (pending_in p) as (λ o. IsLook (quiet_reply o)) [ None ↦ inl refl | Some why ↦ inr (why, refl) ]

pub asks-look : (r : Reply) (p q : QueuePass) → Asks (Ok r) p q → IsLook r
asks-look r p q asks =
    let gets = called-reply replied after p op.Quiet r q asks.calls in
    subst (λ (e : Reply). IsLook e) (sym (gets.1 ∙ look-replies gets.0)) (quiet-look gets.0)

-- the reply from which what is left to do is taken, and the one from which nothing is
pub pending-reply : (r : Reply) (why : Pending) → pending_of r ≡ Some why → r ≡ reply.NotQuiet why
pending-reply (reply.NotQuiet w) why is = ap (λ (w : Pending). reply.NotQuiet w) (ap (λ o. unwrap_or o w) is)
pending-reply _ why is = absurd (none-some why is)

pub quiet-told : (r : Reply) → IsLook r → pending_of r ≡ None → r ≡ reply.IsQuiet
quiet-told r (inl same) is = same
quiet-told r (inr same) is = absurd (none-some same.0 (sym is ∙ ap (λ (x : Reply). pending_of x) same.1))

-- each queue below this one was quiet, and those from it on weren't asked
abbrev pub QuietUpTo : ℕ → List QueuePass → List QueuePass → Type 0
QuietUpTo zero old now = now ≡ old
QuietUpTo (suc queue) [] now = ⊥
QuietUpTo (suc queue) (p ∷ ps) [] = ⊥
QuietUpTo (suc queue) (p ∷ ps) (q ∷ qs) = IsQuiet p q × QuietUpTo queue ps qs

asked-at : (queue : ℕ) (result : Result Reply Refusal) (old now new : List QueuePass) (was is : QueuePass) → QuietUpTo queue old now → slice_get now queue ≡ Some was → new ≡ slice_set now queue is → Asks result was is
    → AsksUpTo queue result old new
asked-at zero result [] now new was is front had put asks =
    let none : slice_get [] 0 ≡ Some was = ap (λ (es : List QueuePass). slice_get es 0) (sym front) ∙ had in
    absurd (cc)
asked-at zero result (p ∷ ps) now new was is front had put asks =
    let some : Some p ≡ Some was = ap (λ (es : List QueuePass). slice_get es 0) (sym front) ∙ had in
    let same : was ≡ p = cc in
    subst (λ (es : List QueuePass). AsksUpTo zero result (p ∷ ps) es) (sym (put ∙ ap (λ (es : List QueuePass). slice_set es 0 is) front))
    (subst (λ (w : QueuePass). Asks result w is) same asks, refl)
asked-at (suc queue) result (p ∷ ps) (q ∷ qs) new was is front had put asks =
    subst (λ (es : List QueuePass). AsksUpTo (suc queue) result (p ∷ ps) es) (sym put)
    (front.0, asked-at queue result ps qs (slice_set qs queue is) was is front.1 had refl asks)
asked-at (suc queue) result _ _ new was is front had put asks = absurd front

-- what a call at the next queue makes of it
pub asked-next : (queue : ℕ) (result : Result Reply Refusal) (old now new : List QueuePass) → QuietUpTo queue old now → CallerCalls now queue op.Quiet result new → AsksUpTo queue result old new
asked-next queue result old now new front calls = asked-at queue result old now new calls.was calls.is front calls.had calls.whole calls.calls

quiet-on : (queue : ℕ) (old new : List QueuePass) → AsksUpTo queue (Ok reply.IsQuiet) old new → QuietUpTo (suc queue) old new
quiet-on zero (p ∷ ps) (q ∷ qs) asks = (asks.0, asks.1)
quiet-on (suc queue) (p ∷ ps) (q ∷ qs) asks = (asks.0, quiet-on queue ps qs asks.1)
quiet-on _ _ _ asks = absurd asks

pub quiet-next : (queue : ℕ) (r : Reply) (old now new : List QueuePass) → QuietUpTo queue old now → CallerCalls now queue op.Quiet (Ok r) new → r ≡ reply.IsQuiet → QuietUpTo (queue + 1) old new
quiet-next queue r old now new front calls is =
    let asks : AsksUpTo queue (Ok reply.IsQuiet) old new = subst (λ (e : Reply). AsksUpTo queue (Ok e) old new) is (asked-next queue (Ok r) old now new front calls) in
    subst (λ n. QuietUpTo n old new) (sym (add-one queue)) (quiet-on queue old new asks)

pub quiet-all : (queue : ℕ) (old now : List QueuePass) → queue ≡ length old → QuietUpTo queue old now → AllZip IsQuiet old now
quiet-all zero [] now here same = subst (λ (es : List QueuePass). AllZip IsQuiet [] es) (sym same) tt
quiet-all zero (p ∷ ps) now here same = absurd (omega arith)
quiet-all (suc queue) (p ∷ ps) (q ∷ qs) here front = (front.0, quiet-all queue ps qs (omega arith) front.1)
quiet-all (suc queue) _ _ here front = absurd front

-- what holds of a pass that was asked, and of one that wasn't, holds of each
module _ (R : QueuePass → QueuePass → Type 0) (same : (p : QueuePass) → R p p) (asked : (result : Result Reply Refusal) (p q : QueuePass) → Asks result p q → R p q) where
  up-to-each : (queue : ℕ) (result : Result Reply Refusal) (ps qs : List QueuePass) → AsksUpTo queue result ps qs → AllZip R ps qs
  up-to-each zero result (p ∷ ps) (q ∷ qs) asks = (asked result p q asks.0, subst (λ (es : List QueuePass). AllZip R ps es) (sym asks.1) (zip-refl R same ps))
  up-to-each (suc queue) result (p ∷ ps) (q ∷ qs) asks = (asked (Ok reply.IsQuiet) p q asks.0, up-to-each queue result ps qs asks.1)
  up-to-each _ result _ _ asks = absurd asks

  pub look-each : (old : List QueuePass) (result : Result Quiet Refusal) (new : List QueuePass) → AsksQuiet old result new → AllZip R old new
  look-each old (Ok All) new asks = zip-weaker IsQuiet R (λ p q one. asked (Ok reply.IsQuiet) p q one) old new asks
  look-each old (Ok (NotQuiet queue why)) new asks = up-to-each queue (Ok (reply.NotQuiet why)) old new asks
  look-each old (Err refusal) new asks = up-to-each asks.0 (Err refusal) old new asks.1

-- as many passes stand at as many turnstiles
pub turnstiles-length : (old now : List QueuePass) → turnstiles now ≡ turnstiles old → length now ≡ length old
turnstiles-length old now same =
    sym (length-map now (λ (p : QueuePass). p.turnstile)) ∙ ap (λ ts. length ts) same ∙ length-map old (λ (p : QueuePass). p.turnstile)
