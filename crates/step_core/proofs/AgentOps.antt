-- What agents ask of one record, done by the parts.
use Rattle.step_core.proofs.Prelude.{rewound, SubState, Registration, ack_at, handled_at, retry, ◌≡◌, ap, refl, ℕ, Bool, true, false, not, List, [], ◌∷◌, length, get_or, set, Some, ◌==◌, if◌then◌else◌, same_sub, place_of, SubName, Token, with_sub, Reply, PlainPartition}
use Rattle.stream_model.specs.declared.reply.Reply.TheVariants as reply
use Rattle.stream_model.specs.Pulling as plain
use Rattle.consumer_grain.specs.Subscriptions.{acknowledged}
use Rattle.pulling_agent.specs.Progress.{ack}
use Rattle.pulling_agent.specs.declared.told.Acked.TheVariants as ack_told
use Rattle.pulling_agent.specs.declared.told.Retried.TheVariants as retry_told
use Rattle.step_core.specs.declared.parts.Parts.{Parts}
use Rattle.step_core.specs.PlainOf.{plain_of}
use Rattle.step_core.specs.Replies.{of_ack, of_retry}
use Rattle.step_core.proofs.RecordOps.{record-found, record-kept, record-set, record_at}

abbrev pub with_state : {R : Type 0} → Parts → ℕ → (R → Reply) → SubState × R → PlainPartition × Reply
with_state parts i told stepped = (plain_of (record parts { subs = record parts.subs { states = set parts.subs.states i stepped.0 } }), told stepped.1)

pub retry-parts : (parts : Parts) (generation : ℕ) (s : SubName) (i : ℕ) (d : SubName × Registration) (e : SubState) → length parts.subs.registry.names ≡ length parts.subs.states → (generation == parts.agent.generation) ≡ true → place_of same_sub s parts.subs.registry.names ≡ Some i
    → plain.retry (plain_of parts) generation s ≡ with_state parts i of_retry (retry (get_or parts.subs.states i e))
unfolding plain.retry plain.retry_of
retry-parts parts generation s i d e lengths current found =
    rw (current, record-found parts s i d e lengths found)
    (by (get_or parts.subs.states i e).live)
  where
    old : SubState
    old = get_or parts.subs.states i e

    by : (is_open : Bool)
        → (if not is_open then (plain_of parts, reply.Closed) else (with_sub (plain_of parts) s (plain.rewound (record_at parts i d e)), reply.Rewound))
        ≡ with_state parts i of_retry (if not is_open then (old, retry_told.Closed) else (rewound old, retry_told.Rewound))
    by false = ap (λ p. (p, reply.Closed)) (record-kept parts i e)
    by true = ap (λ p. (p, reply.Rewound)) (record-set parts s i d e (rewound old) plain.rewound lengths found refl)

pub ack-parts : (parts : Parts) (generation : ℕ) (s : SubName) (token : Token) (i : ℕ) (d : SubName × Registration) (e : SubState) → length parts.subs.registry.names ≡ length parts.subs.states → (generation == parts.agent.generation) ≡ true → place_of same_sub s parts.subs.registry.names ≡ Some i
    → plain.ack (plain_of parts) generation s token ≡ with_state parts i of_ack (ack (get_or parts.subs.states i e) parts.queue token)
unfolding plain.ack plain.ack_of plain.ack_position
ack-parts parts generation s token i d e lengths current found =
    rw (current, record-found parts s i d e lengths found)
    (by (get_or parts.subs.states i e).live (handled_at (get_or parts.subs.states i e).handled parts.queue token))
  where
    old : SubState
    old = get_or parts.subs.states i e

    by : (is_open : Bool) (positions : List ℕ)
        → (if not is_open then (plain_of parts, reply.Closed) else plain.ack_position (plain_of parts) s (record_at parts i d e) positions)
        ≡ with_state parts i of_ack (if not is_open then (old, ack_told.Closed) else ack_at old positions)
    by false positions = ap (λ p. (p, reply.Closed)) (record-kept parts i e)
    by true [] = ap (λ p. (p, reply.NotHandled)) (record-kept parts i e)
    by true (position ∷ positions) = ap (λ p. (p, reply.Acked)) (record-set parts s i d e (acknowledged position old) (λ r. plain.acknowledged r position) lengths found refl)
