-- What a drain does after each reply, by what the program reads of it.
use Rattle.step_core.proofs.Prelude.{◌≡◌, ◌∙◌, ap, sym, refl, ℕ, zero, suc, Bool, GrainId, SubName, Astray, Progress, after_ack, after_last_deliver, and_then, ask, done, drain_round, stopped, deliver_up_to, Reply, Pull, PlainPartition, if◌then◌else◌}
use Rattle.stream_model.specs.declared.reply.Reply.TheVariants as reply
use Rattle.stream_model.specs.Draining.{after_deliver, after_pull, take_turn}
use Rattle.step_core.specs.DrainPhases.{deliver_told, is_acknowledged, is_nothing, pull_told}
use Rattle.step_core.proofs.DrainSteps.{IsTold}

-- done where the reply is the one that is looked for
abbrev pub done_where : Bool → PlainPartition → Progress
done_where b p = if b then done p else stopped Astray p

ack-by : (p : PlainPartition) (answer : Reply) → done_where (is_acknowledged answer) p ≡ after_ack p answer
ack-by p reply.Acked = refl
ack-by p _ = refl

pub ack-where : (p : PlainPartition) (answer : Reply) (b : Bool) → is_acknowledged answer ≡ b → done_where b p ≡ after_ack p answer
ack-where p answer b is = ap (λ b. done_where b p) (sym is) ∙ ack-by p answer

last-by : (p : PlainPartition) (answer : Reply) → done_where (is_nothing answer) p ≡ after_last_deliver p answer
last-by p reply.Nothing = refl
last-by p _ = refl

pub last-where : (p : PlainPartition) (answer : Reply) (b : Bool) → is_nothing answer ≡ b → done_where b p ≡ after_last_deliver p answer
last-where p answer b is = ap (λ b. done_where b p) (sym is) ∙ last-by p answer

-- after a Deliver: a turn and another delivery, or with no delivery left nothing more
abbrev pub more_delivers : ℕ → SubName → GrainId → PlainPartition → Progress
more_delivers zero s g p = stopped Astray p
more_delivers (suc n) s g p = and_then (take_turn g p) (deliver_up_to n s g)

pub deliver-told : (n : ℕ) (s : SubName) (g : GrainId) → IsTold deliver_told (more_delivers n s g) (after_deliver n s g)
unfolding after_deliver
deliver-told zero s g p (reply.Delivered token) = refl
deliver-told zero s g p reply.Nothing = refl
deliver-told zero s g p reply.Spent = refl
deliver-told zero s g p _ = refl
deliver-told (suc n) s g p (reply.Delivered token) = refl
deliver-told (suc n) s g p reply.Nothing = refl
deliver-told (suc n) s g p reply.Spent = refl
deliver-told (suc n) s g p _ = refl

-- rounds with a pull after each, at most so many after the first
abbrev pub rounds_up_to : ℕ → PlainPartition → Progress
rounds_up_to n p = and_then (drain_round p) (λ q. ask q (Pull q.generation 32) (after_pull n))

-- after a Pull: a round and another pull, or with no round left nothing more
abbrev pub more_rounds : ℕ → PlainPartition → Progress
more_rounds zero p = stopped Astray p
more_rounds (suc n) p = rounds_up_to n p

pub pull-told : (n : ℕ) → IsTold pull_told (more_rounds n) (after_pull n)
unfolding after_pull
pull-told zero p (reply.Pulled count low high) = refl
pull-told zero p reply.Dry = refl
pull-told zero p reply.TooMany = refl
pull-told zero p _ = refl
pull-told (suc n) p (reply.Pulled count low high) = refl
pull-told (suc n) p reply.Dry = refl
pull-told (suc n) p reply.TooMany = refl
pull-told (suc n) p _ = refl
