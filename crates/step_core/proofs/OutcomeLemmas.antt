-- What comes of an operation that begins no turn.
use Rattle.step_core.proofs.Prelude.{◌≡◌, [], List, Ok, subst, ap, sym, ◌∙◌, refl, IfOk, OnErr, AllocError, Performs, Event, IsNoTurn, Reply, PlainPartition, Result, Err}
use Rattle.stream_ident.specs.Event.{events_at}
use Rattle.stream_model.specs.declared.reply.Reply.TheVariants as reply
use Rattle.stream_model.proofs.Retyping.{with-any}
use Rattle.step_core.specs.Replied.{answered, replied, reply_of, reply_with, IsOfLog, Outcome}

-- no position of a reply that is no turn lies outside of the log
pub none-outside : (log : List Event) (came : Outcome) → IsNoTurn came → IsOfLog log came
none-outside log (reply.Turn sub activation turn positions note) it = absurd it
none-outside log _ it = tt

-- the log has nothing to do with a reply that is no turn
pub of-any-log : (log : List Event) (came : Outcome) → IsNoTurn came → reply_of came ≡ reply_with log came
of-any-log log came it = with-any (λ positions. []) (events_at log) came it

pub answered-as : (log : List Event) (r : Result Outcome AllocError) → IfOk r IsNoTurn → replied r ≡ answered log r
answered-as log (Ok came) it = ap Ok (of-any-log log came it)
answered-as log (Err e) it = refl

-- the operation is the one that was asked for
pub performs-as : (old new : PlainPartition) (log : List Event) (r : Result Outcome AllocError) (said wanted : PlainPartition × Reply)
    → Performs old new (replied r) said → IfOk r IsNoTurn → said ≡ wanted → Performs old new (answered log r) wanted
performs-as old new log r said wanted performs told same =
    subst (λ x. Performs old new x wanted) (answered-as log r told) (subst (λ x. Performs old new (replied r) x) same performs)

pub told-as : (log : List Event) (came : Outcome) (p : PlainPartition) (said wanted : PlainPartition × Reply)
    → (p, reply_of came) ≡ said → IsNoTurn came → said ≡ wanted → (p, reply_with log came) ≡ wanted
told-as log came p said wanted is told same =
    ap {B = PlainPartition × Reply} (λ r. (p, r)) (sym (of-any-log log came told)) ∙ (is ∙ same)

-- two facts of one failure
pub both-fail : (P Q : Type 0) (r : Result Outcome AllocError) → OnErr r P → OnErr r Q → OnErr r (P × Q)
both-fail P Q (Ok came) first second = tt
both-fail P Q (Err e) first second = (first, second)

-- a failure means less
pub fails : {T P Q : Type 0} (r : Result T AllocError) → OnErr r P → (P → Q) → OnErr r Q
fails (Ok came) failed so = tt
fails (Err e) failed so = so failed
