-- What an agent's deliver leaves and answers, case by case.
use Rattle.partition_reference.proofs.Prelude.{◌≡◌, ℕ, suc, ◌+◌, ◌-◌, ◌<◌, ◌≤◌, Bool, true, false, ◌&&◌, ◌||◌, not, List, ◌∷◌, length, get_or, take, drop, max, Option, Some, None, sym, ap, subst, ◌∙◌, nat_lt, arith, eq-eqb, le-leb, lt-leb, drop_more, same_Some, AllByRecursion, if◌then◌else◌, same_grain, same_sub, first_at, with_value, Event, GrainId, SubName, MAILBOX_PLACES, Token, grain_at-new, place_of, between, grain_at, is_outstanding, is_spent, is_unacknowledged, next_position, running_in, sub_at, token_at, waiting_in, with_grain, with_sub, caught_up, delivered, woken, Reply, takes_memory, Grain, PlainPartition, Subscription}
use Rattle.std.specs.Int.{from_bool}
use Rattle.stream_model.specs.declared.reply.Reply.TheVariants as reply
use Rattle.stream_model.specs.Bounds.{IsWithinLimits}
use Rattle.stream_model.specs.Pulling.{deliver, deliver_to, deliver_position}
use Rattle.stream_ident.proofs.EachOf.{All-weaken}

-- what the cache has from a position on, by its first event
between-more : (log : List Event) (from to : ℕ) (e : Event) → from < to → from < length log → e ≡ get_or log from e → between log from to ≡ e ∷ between log (from + 1) to
between-more log from to e below within read =
    let left : to - from ≡ suc (to - (from + 1)) = omega arith in
    ap (λ n. take n (drop from log)) left
    ∙ (ap (take (suc (to - (from + 1)))) (drop_more log from e within)
    ∙ ap (λ x. x ∷ take (to - (from + 1)) (drop (from + 1) log)) (sym read))

-- the first that passes there is found, or is further on
pub first_between-found : (passes : Event → Bool) (log : List Event) (from to : ℕ) (e : Event) → from < to → from < length log → e ≡ get_or log from e → passes e ≡ true → first_at passes from (between log from to) ≡ Some from
first_between-found passes log from to e below within read found =
    ap (first_at passes from) (between-more log from to e below within read)
    ∙ ap (λ b. if b then Some from else first_at passes (suc from) (between log (from + 1) to)) found

pub first_between-more : (passes : Event → Bool) (log : List Event) (from to : ℕ) (e : Event) → from < to → from < length log → e ≡ get_or log from e → passes e ≡ false → first_at passes (from + 1) (between log (from + 1) to) ≡ first_at passes from (between log from to)
first_between-more passes log from to e below within read fails =
    let next : from + 1 ≡ suc from = omega arith in
    ap (λ n. first_at passes n (between log (from + 1) to)) next
    ∙ sym (ap (first_at passes from) (between-more log from to e below within read)
    ∙ ap (λ b. if b then Some from else first_at passes (suc from) (between log (from + 1) to)) fails)

deliver-current : (p : PlainPartition) (generation : ℕ) (s : SubName) (r : Option Subscription) → generation ≡ p.generation → sub_at p s ≡ r → deliver p generation s ≡ deliver_to p s r
unfolding deliver
deliver-current p generation s r current is_r =
    ap {B = PlainPartition × Reply} (λ b. if not b then (p, reply.StaleAgent p.generation) else deliver_to p s (sub_at p s)) (eq-eqb generation p.generation current)
    ∙ ap (deliver_to p s) is_r

pub deliver-closed : (p : PlainPartition) (generation : ℕ) (s : SubName) (r : Subscription) → generation ≡ p.generation → sub_at p s ≡ Some r → r.is_open ≡ false → (p, reply.Closed) ≡ deliver p generation s
unfolding deliver_to
deliver-closed p generation s r current is_r closed =
    sym (deliver-current p generation s (Some r) current is_r
    ∙ ap {B = PlainPartition × Reply} (λ b. if not b then (p, reply.Closed) else deliver_position p s r (grain_at p r.grain) (next_position p r)) closed)

-- an open subscription with this next position, or with none
deliver-open : (p : PlainPartition) (generation : ℕ) (s : SubName) (r : Subscription) (position : Option ℕ) → generation ≡ p.generation → sub_at p s ≡ Some r → r.is_open ≡ true → next_position p r ≡ position → deliver_position p s r (grain_at p r.grain) position ≡ deliver p generation s
unfolding deliver_to
deliver-open p generation s r position current is_r is_open is_position =
    sym (deliver-current p generation s (Some r) current is_r
    ∙ (ap {B = PlainPartition × Reply} (λ b. if not b then (p, reply.Closed) else deliver_position p s r (grain_at p r.grain) (next_position p r)) is_open
    ∙ ap (deliver_position p s r (grain_at p r.grain)) is_position))

pub deliver-nothing : (p : PlainPartition) (generation : ℕ) (s : SubName) (r : Subscription) (after : PlainPartition) → generation ≡ p.generation → sub_at p s ≡ Some r → r.is_open ≡ true → next_position p r ≡ None → after ≡ with_sub p s (caught_up p s r) → (after, reply.Nothing) ≡ deliver p generation s
unfolding deliver_position
deliver-nothing p generation s r after current is_r is_open none caught =
    ap {B = PlainPartition × Reply} (λ (after : PlainPartition). (after, reply.Nothing)) caught
    ∙ deliver-open p generation s r None current is_r is_open none

pub deliver-found : (p : PlainPartition) (generation : ℕ) (s : SubName) (r : Subscription) (position : ℕ) → generation ≡ p.generation → sub_at p s ≡ Some r → r.is_open ≡ true → next_position p r ≡ Some position → deliver_position p s r (grain_at p r.grain) (Some position) ≡ deliver p generation s
deliver-found p generation s r position = deliver-open p generation s r (Some position)

pub deliver_position-full : (p : PlainPartition) (s : SubName) (r : Subscription) (st : Grain) (position : ℕ) → MAILBOX_PLACES ≤ length st.mailbox → (p, reply.MailboxFull) ≡ deliver_position p s r st (Some position)
unfolding deliver_position
deliver_position-full p s r st position full =
    sym (ap {B = PlainPartition × Reply} (λ b. if b then (p, reply.MailboxFull) else if not st.active && is_spent p then (p, reply.Spent) else (delivered p s r st position, reply.Delivered (token_at p position))) (le-leb 16 (length st.mailbox) full))

deliver_position-room : (p : PlainPartition) (s : SubName) (r : Subscription) (st : Grain) (position : ℕ) → length st.mailbox < MAILBOX_PLACES → deliver_position p s r st (Some position) ≡ (if not st.active && is_spent p then (p, reply.Spent) else (delivered p s r st position, reply.Delivered (token_at p position)))
unfolding deliver_position
deliver_position-room p s r st position room =
    ap {B = PlainPartition × Reply} (λ b. if b then (p, reply.MailboxFull) else if not st.active && is_spent p then (p, reply.Spent) else (delivered p s r st position, reply.Delivered (token_at p position))) (lt-leb 16 (length st.mailbox) room)

pub deliver_position-spent : (p : PlainPartition) (s : SubName) (r : Subscription) (st : Grain) (position : ℕ) → length st.mailbox < MAILBOX_PLACES → (not st.active && is_spent p) ≡ true → (p, reply.Spent) ≡ deliver_position p s r st (Some position)
deliver_position-spent p s r st position room spent =
    sym (deliver_position-room p s r st position room
    ∙ ap {B = PlainPartition × Reply} (λ b. if b then (p, reply.Spent) else (delivered p s r st position, reply.Delivered (token_at p position))) spent)

deliver_position-fits : (p : PlainPartition) (s : SubName) (r : Subscription) (st : Grain) (position : ℕ) → length st.mailbox < MAILBOX_PLACES → (not st.active && is_spent p) ≡ false → deliver_position p s r st (Some position) ≡ (delivered p s r st position, reply.Delivered (token_at p position))
deliver_position-fits p s r st position room left =
    deliver_position-room p s r st position room
    ∙ ap {B = PlainPartition × Reply} (λ b. if b then (p, reply.Spent) else (delivered p s r st position, reply.Delivered (token_at p position))) left

pub deliver_position-done : (p : PlainPartition) (s : SubName) (r : Subscription) (st : Grain) (position : ℕ) (subs : List (SubName × Subscription)) (grains : List (GrainId × Grain)) (rises : ℕ) (token : Token) → length st.mailbox < MAILBOX_PLACES → (not st.active && is_spent p) ≡ false → subs ≡ with_value same_sub s (record r { cursor = suc position }) p.subs → grains ≡ with_value same_grain r.grain (woken st s position) p.grains → rises ≡ (if st.active then p.rises else suc p.rises) → token ≡ token_at p position → (record p { subs = subs; grains = grains; rises = rises }, reply.Delivered token) ≡ deliver_position p s r st (Some position)
deliver_position-done p s r st position subs grains rises token room left is_subs is_grains is_rises is_token =
    ap {B = PlainPartition × Reply} (λ (subs : List (SubName × Subscription)). (record p { subs = subs; grains = grains; rises = rises }, reply.Delivered token)) is_subs
    ∙ (ap {B = PlainPartition × Reply} (λ (grains : List (GrainId × Grain)). (record p { subs = with_value same_sub s (record r { cursor = suc position }) p.subs; grains = grains; rises = rises }, reply.Delivered token)) is_grains
    ∙ (ap {B = PlainPartition × Reply} (λ (rises : ℕ). (record (with_grain (with_sub p s (record r { cursor = suc position })) r.grain (woken st s position)) { rises = rises }, reply.Delivered token)) is_rises
    ∙ (ap {B = PlainPartition × Reply} (λ token. (delivered p s r st position, reply.Delivered token)) is_token
    ∙ sym (deliver_position-fits p s r st position room left))))

pub deliver_position-takes : (p : PlainPartition) (s : SubName) (r : Subscription) (st : Grain) (position : ℕ) → length st.mailbox < MAILBOX_PLACES → (not st.active && is_spent p) ≡ false → takes_memory (deliver_position p s r st (Some position)).1 ≡ true
deliver_position-takes p s r st position room left =
    ap (λ (stepped : PlainPartition × Reply). takes_memory stepped.1) (deliver_position-fits p s r st position room left)

-- nothing waits or runs at a grain with no record
pub is_outstanding-new : (p : PlainPartition) (s : SubName) (r : Subscription) → place_of same_grain r.grain p.grains ≡ None → is_unacknowledged r ≡ is_outstanding p s r
is_outstanding-new p s r e =
    sym (ap (λ (st : Grain). nat_lt 0 (length (waiting_in s st.mailbox)) || (nat_lt 0 (length (running_in s st.running)) || is_unacknowledged r)) (grain_at-new p r.grain e))

-- the marks of a subscription that has caught up
pub caught_up-done : (p : PlainPartition) (s : SubName) (r : Subscription) (subs : List (SubName × Subscription)) (cursor resume : ℕ) → cursor ≡ max r.cursor p.high → resume ≡ (if is_outstanding p s r then r.resume else cursor) → subs ≡ with_value same_sub s (record r { cursor = cursor; resume = resume }) p.subs → record p { subs = subs } ≡ with_sub p s (caught_up p s r)
caught_up-done p s r subs cursor resume is_cursor is_resume changed =
    ap {B = PlainPartition} (λ (subs : List (SubName × Subscription)). record p { subs = subs }) changed
    ∙ (ap {B = PlainPartition} (λ (resume : ℕ). with_sub p s (record r { cursor = cursor; resume = resume })) is_resume
    ∙ ap {B = PlainPartition} (λ (cursor : ℕ). with_sub p s (record r { cursor = cursor; resume = if is_outstanding p s r then r.resume else cursor })) is_cursor)

-- what holds of the subscription that was found holds of each under its name
pub at-found : (P : Subscription → Type 0) (p : PlainPartition) (s : SubName) (found r : Subscription) → sub_at p s ≡ Some found → sub_at p s ≡ Some r → P found → P r
at-found P p s found r is_found is_r h = subst P (same_Some found r (sym is_found ∙ is_r)) h

-- an activation fits
pub activations-fit : (p : PlainPartition) → IsWithinLimits p → AllByRecursion (λ entry. entry.1.activation ≤ 4000000) p.grains
activations-fit p within =
    All-weaken (λ (entry : GrainId × Grain). entry.1.activation ≤ p.rises) (λ (entry : GrainId × Grain). entry.1.activation ≤ 4000000) (λ entry le. omega (arith, le, within.rises, within.limits.rises)) p.grains within.activations

-- a grain that wasn't active costs a rise
pub rises-woken : (active : Bool) (rises cost : ℕ) → cost ≡ from_bool (not active) → rises + cost ≡ (if active then rises else suc rises)
rises-woken true rises cost e = omega (arith, e)
rises-woken false rises cost e = omega (arith, e)
