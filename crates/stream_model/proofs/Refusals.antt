-- What calls that are refused leave and answer.
use Rattle.stream_model.proofs.Prelude.{◌≡◌, ◌∙◌, ℕ, true, false, sym, ap, List, None, Some, refl, GrainId, StreamId, SubName, Explicit, Implicit, Token}
use Rattle.stream_model.specs.declared.plain.Grain.{Grain}
use Rattle.stream_model.specs.declared.plain.PlainPartition.{PlainPartition}
use Rattle.stream_model.specs.declared.plain.Subscription.{Subscription}
use Rattle.stream_model.specs.declared.reply.Reply.TheVariants as reply
use Rattle.stream_model.specs.Positions.{grain_at, is_spent, sub_at}
use Rattle.stream_model.specs.Publishing.{unsubscribe, unsubscribe_from}
use Rattle.stream_model.specs.Pulling.{ack, ack_of, deliver, deliver_to, is_stale, move, pull, purge, retry, retry_of}
use Rattle.stream_model.specs.Turns.{deactivate, deactivate_in}

-- ---- an agent that was replaced

pub pull-stale : (p : PlainPartition) (generation max_events : ℕ) → is_stale p generation ≡ true → (p, reply.StaleAgent p.generation) ≡ pull p generation max_events
unfolding pull
pull-stale p generation max_events stale = rw stale refl

pub deliver-stale : (p : PlainPartition) (generation : ℕ) (s : SubName) → is_stale p generation ≡ true → (p, reply.StaleAgent p.generation) ≡ deliver p generation s
unfolding deliver
deliver-stale p generation s stale = rw stale refl

pub retry-stale : (p : PlainPartition) (generation : ℕ) (s : SubName) → is_stale p generation ≡ true → (p, reply.StaleAgent p.generation) ≡ retry p generation s
unfolding retry
retry-stale p generation s stale = rw stale refl

pub ack-stale : (p : PlainPartition) (generation : ℕ) (s : SubName) (token : Token) → is_stale p generation ≡ true → (p, reply.StaleAgent p.generation) ≡ ack p generation s token
unfolding ack
ack-stale p generation s token stale = rw stale refl

pub purge-stale : (p : PlainPartition) (generation keep : ℕ) → is_stale p generation ≡ true → (p, reply.StaleAgent p.generation) ≡ purge p generation keep
unfolding purge
purge-stale p generation keep stale = rw stale refl

-- ---- a name without a record

pub deliver-unknown : (p : PlainPartition) (generation : ℕ) (s : SubName) → is_stale p generation ≡ false → sub_at p s ≡ None → (p, reply.NoSuch) ≡ deliver p generation s
unfolding deliver deliver_to
deliver-unknown p generation s current none = rw (current, none) refl

pub retry-unknown : (p : PlainPartition) (generation : ℕ) (s : SubName) → is_stale p generation ≡ false → sub_at p s ≡ None → (p, reply.NoSuch) ≡ retry p generation s
unfolding retry retry_of
retry-unknown p generation s current none = rw (current, none) refl

pub ack-unknown : (p : PlainPartition) (generation : ℕ) (s : SubName) (token : Token) → is_stale p generation ≡ false → sub_at p s ≡ None → (p, reply.NoSuch) ≡ ack p generation s token
unfolding ack ack_of
ack-unknown p generation s token current none = rw (current, none) refl

pub unsubscribe-unknown : (p : PlainPartition) (s : SubName) → sub_at p s ≡ None → (p, reply.NoSuch) ≡ unsubscribe p s
unfolding unsubscribe unsubscribe_from
unsubscribe-unknown p (Explicit number) none = rw none refl
unsubscribe-unknown p (Implicit kind stream) none = rw none refl

-- ---- what may not be asked

pub unsubscribe-implicit : (p : PlainPartition) (s : SubName) (kind : List ℕ) (stream : StreamId) (r : Subscription) → s ≡ Implicit kind stream → sub_at p s ≡ Some r → (p, reply.Implicit) ≡ unsubscribe p s
unfolding unsubscribe unsubscribe_from
unsubscribe-implicit p s kind stream r is found =
    ap (λ s. unsubscribe_from p s (Some r)) (sym is) ∙ sym (ap (unsubscribe_from p s) found)

pub move-spent : (p : PlainPartition) (silo : ℕ) → is_spent p ≡ true → (p, reply.Spent) ≡ move p silo
unfolding move
move-spent p silo spent = rw spent refl

pub deactivate-idle : (p : PlainPartition) (g : GrainId) (st : Grain) → grain_at p g ≡ st → st.active ≡ false → (p, reply.NotActive) ≡ deactivate p g
unfolding deactivate deactivate_in
deactivate-idle p g st is idle = rw (is, idle) refl
