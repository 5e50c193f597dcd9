-- Passes that have seen more.
use Rattle.queue_callers.proofs.Prelude.{owns-append, owns-foreign, QueuePass, OwnsNone, inr, ℕ, List, [], ◌∷◌, ◌++◌, Result, Ok, Err, refl, sym, ap, subst, ◌∙◌, append_assoc, append-nil, All-append, Reply, Op, numbers_of, Foreign, entry, Entry, Refusal}
use Rattle.stream_model.specs.declared.op.Op.TheVariants as ops
use Rattle.stream_model.specs.Producers.{is_producer}
use Rattle.queue_callers.specs.Calls.{QueueCalls}
use Rattle.queue_callers.specs.Draining.{AsksForProducers, HasGoneOn, IsForProducers, ProducesNone}

-- calls of others
pub asks-foreign : (numbers : List ℕ) (es : List (Entry Op Reply)) → Foreign numbers es → AsksForProducers numbers es
asks-foreign numbers [] foreign = tt
asks-foreign numbers (e ∷ es) foreign = ((λ here. absurd (foreign.0 here)), asks-foreign numbers es foreign.1)

pub gone-refl : (p : QueuePass) → HasGoneOn p p
gone-refl p = record { only = refl; more = []; seen = sym (append-nil p.seen); own = tt }

pub gone-trans : (p q r : QueuePass) → HasGoneOn p q → HasGoneOn q r → HasGoneOn p r
gone-trans p q r a b =
    record {
      only = b.only ∙ ap (λ (w : QueuePass). record w { seen = r.seen }) a.only;
      more = a.more ++ b.more;
      seen = b.seen ∙ ap (λ (es : List (Entry Op Reply)). es ++ b.more) a.seen ∙ append_assoc p.seen a.more b.more;
      own =
          All-append _ a.more b.more a.own
          (subst (λ ks. AsksForProducers ks b.more) (ap (λ (w : QueuePass). numbers_of w) a.only) b.own);
    }

pub called-on : (p q : QueuePass) (op : Op) (result : Result Reply Refusal) → IsForProducers op → QueueCalls p op result q → HasGoneOn p q
called-on p q op (Ok r) asks calls =
    let called = calls.calls.call in
    let last = entry p.number op r ∷ [] in
    record {
      only = calls.calls.only;
      more = called.0 ++ last;
      seen = called.1 ∙ append_assoc p.seen called.0 last;
      own = All-append _ called.0 last (asks-foreign (numbers_of p) called.0 called.2) ((λ here. asks), tt);
    }
called-on p q op (Err refusal) asks calls =
    let found = calls.calls.call in
    record { only = calls.calls.only; more = found.0; seen = found.1; own = asks-foreign (numbers_of p) found.0 found.2 }

pub none-refl : (p : QueuePass) → ProducesNone p p
unfolding gone-refl
none-refl p = record { on = gone-refl p; none = tt }

pub none-trans : (p q r : QueuePass) → ProducesNone p q → ProducesNone q r → ProducesNone p r
unfolding gone-trans
none-trans p q r a b =
    record {
      on = gone-trans p q r a.on b.on;
      none =
          owns-append is_producer (numbers_of p) a.on.more b.on.more a.none
          (subst (λ ks. OwnsNone is_producer ks b.on.more) (ap (λ (w : QueuePass). numbers_of w) a.on.only) b.none);
    }

-- a call that asks whether the queue is quiet
pub looked-none : (p q : QueuePass) (result : Result Reply Refusal) → QueueCalls p ops.Quiet result q → ProducesNone p q
unfolding called-on
looked-none p q (Ok r) calls =
    let called = calls.calls.call in
    record {
      on = called-on p q ops.Quiet (Ok r) (inr refl) calls;
      none =
          owns-append is_producer (numbers_of p) called.0 (entry p.number ops.Quiet r ∷ []) (owns-foreign is_producer (numbers_of p) called.0 called.2)
          ((λ here. refl), tt);
    }
looked-none p q (Err refusal) calls =
    let found = calls.calls.call in
    record { on = called-on p q ops.Quiet (Err refusal) (inr refl) calls; none = owns-foreign is_producer (numbers_of p) found.0 found.2 }
