-- What an agent's retry and ack leave and answer, case by case.
use Rattle.partition_reference.proofs.Prelude.{◌≡◌, ℕ, suc, ◌+◌, max, true, false, not, List, [], ◌∷◌, Option, Some, None, refl, sym, ap, ◌∙◌, arith, slice_get, if◌then◌else◌, same_sub, with_value, SubName, Token, sub_at, with_sub, acknowledged, handled_at, is_stale, rewound, Reply, PlainPartition, Subscription}
use Rattle.stream_model.specs.declared.reply.Reply.TheVariants as reply
use Rattle.stream_model.specs.Pulling.{ack, ack_of, ack_position, retry, retry_of}

-- the subscription's record decides
retry-current : (p : PlainPartition) (generation : ℕ) (s : SubName) (found : Option Subscription) → is_stale p generation ≡ false → sub_at p s ≡ found → retry p generation s ≡ retry_of p s found
unfolding retry
retry-current p generation s found current is_found =
    ap {B = PlainPartition × Reply} (λ b. if b then (p, reply.StaleAgent p.generation) else retry_of p s (sub_at p s)) current
    ∙ ap (retry_of p s) is_found

pub retry-closed : (p : PlainPartition) (generation : ℕ) (s : SubName) (r : Subscription) → is_stale p generation ≡ false → sub_at p s ≡ Some r → r.is_open ≡ false → (p, reply.Closed) ≡ retry p generation s
unfolding retry_of
retry-closed p generation s r current is_r closed =
    sym (retry-current p generation s (Some r) current is_r
    ∙ ap {B = PlainPartition × Reply} (λ b. if not b then (p, reply.Closed) else (with_sub p s (rewound r), reply.Rewound)) closed)

pub retry-done : (p : PlainPartition) (generation : ℕ) (s : SubName) (r : Subscription) (subs : List (SubName × Subscription)) → is_stale p generation ≡ false → sub_at p s ≡ Some r → r.is_open ≡ true → subs ≡ with_value same_sub s (rewound r) p.subs → (record p { subs = subs }, reply.Rewound) ≡ retry p generation s
unfolding retry_of
retry-done p generation s r subs current is_r is_open changed =
    ap {B = PlainPartition × Reply} (λ (subs : List (SubName × Subscription)). (record p { subs = subs }, reply.Rewound)) changed
    ∙ sym (retry-current p generation s (Some r) current is_r
    ∙ ap {B = PlainPartition × Reply} (λ b. if not b then (p, reply.Closed) else (with_sub p s (rewound r), reply.Rewound)) is_open)

-- the subscription's record decides
ack-current : (p : PlainPartition) (generation : ℕ) (s : SubName) (token : Token) (found : Option Subscription) → is_stale p generation ≡ false → sub_at p s ≡ found → ack p generation s token ≡ ack_of p s token found
unfolding ack
ack-current p generation s token found current is_found =
    ap {B = PlainPartition × Reply} (λ b. if b then (p, reply.StaleAgent p.generation) else ack_of p s token (sub_at p s)) current
    ∙ ap (ack_of p s token) is_found

pub ack-closed : (p : PlainPartition) (generation : ℕ) (s : SubName) (token : Token) (r : Subscription) → is_stale p generation ≡ false → sub_at p s ≡ Some r → r.is_open ≡ false → (p, reply.Closed) ≡ ack p generation s token
unfolding ack_of
ack-closed p generation s token r current is_r closed =
    sym (ack-current p generation s token (Some r) current is_r
    ∙ ap {B = PlainPartition × Reply} (λ b. if not b then (p, reply.Closed) else ack_position p s r (handled_at p r token)) closed)

-- an open subscription's handled positions with the token decide
ack-open : (p : PlainPartition) (generation : ℕ) (s : SubName) (token : Token) (r : Subscription) → is_stale p generation ≡ false → sub_at p s ≡ Some r → r.is_open ≡ true → ack_position p s r (handled_at p r token) ≡ ack p generation s token
unfolding ack_of
ack-open p generation s token r current is_r is_open =
    sym (ack-current p generation s token (Some r) current is_r
    ∙ ap {B = PlainPartition × Reply} (λ b. if not b then (p, reply.Closed) else ack_position p s r (handled_at p r token)) is_open)

-- no position, and a first one
position-none : (p : PlainPartition) (s : SubName) (r : Subscription) (positions : List ℕ) → slice_get positions 0 ≡ None → (p, reply.NotHandled) ≡ ack_position p s r positions
unfolding ack_position
position-none p s r [] none = refl
position-none p s r (first ∷ positions) none = absurd (cc)

position-some : (p : PlainPartition) (s : SubName) (r : Subscription) (positions : List ℕ) (position : ℕ) → slice_get positions 0 ≡ Some position → (with_sub p s (acknowledged r position), reply.Acked) ≡ ack_position p s r positions
unfolding ack_position
position-some p s r [] position some = absurd (cc)
position-some p s r (first ∷ positions) position some =
    let is_first : position ≡ first = cc in
    ap {B = PlainPartition × Reply} (λ position. (with_sub p s (acknowledged r position), reply.Acked)) is_first

pub ack-nothing : (p : PlainPartition) (generation : ℕ) (s : SubName) (token : Token) (r : Subscription) → is_stale p generation ≡ false → sub_at p s ≡ Some r → r.is_open ≡ true → slice_get (handled_at p r token) 0 ≡ None → (p, reply.NotHandled) ≡ ack p generation s token
ack-nothing p generation s token r current is_r is_open none =
    position-none p s r (handled_at p r token) none ∙ ack-open p generation s token r current is_r is_open

pub ack-done : (p : PlainPartition) (generation : ℕ) (s : SubName) (token : Token) (r : Subscription) (position : ℕ) (subs : List (SubName × Subscription)) → is_stale p generation ≡ false → sub_at p s ≡ Some r → r.is_open ≡ true → slice_get (handled_at p r token) 0 ≡ Some position → subs ≡ with_value same_sub s (acknowledged r position) p.subs → (record p { subs = subs }, reply.Acked) ≡ ack p generation s token
ack-done p generation s token r position subs current is_r is_open some changed =
    ap {B = PlainPartition × Reply} (λ (subs : List (SubName × Subscription)). (record p { subs = subs }, reply.Acked)) changed
    ∙ (position-some p s r (handled_at p r token) position some ∙ ack-open p generation s token r current is_r is_open)

-- the marks that code sets
pub acknowledged-marks : (r : Subscription) (position resume cursor : ℕ) → resume ≡ max r.resume (position + 1) → cursor ≡ max r.cursor resume → record r { cursor = cursor; resume = resume } ≡ acknowledged r position
acknowledged-marks r position resume cursor is_resume is_cursor =
    let next : position + 1 ≡ suc position = omega arith in
    let past : resume ≡ max r.resume (suc position) = is_resume ∙ ap (max r.resume) next in
    ap {B = Subscription} (λ (cursor : ℕ). record r { cursor = cursor; resume = resume }) is_cursor
    ∙ ap {B = Subscription} (λ (resume : ℕ). record r { cursor = max r.cursor resume; resume = resume }) past
