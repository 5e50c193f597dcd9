-- Every step leaves the cursor of each open subscription at or before its resume or the end of the cache, whichever is
-- further.
use Rattle.stream_laws.proofs.Prelude.{◌≡◌, ℕ, suc, ◌+◌, ◌*◌, ◌≤◌, max, ◌==◌, ◌&&◌, ◌||◌, not, nat_lt, nat_le, Bool, true, false, List, [], ◌∷◌, ◌++◌, length, fold, Option, Some, None, is_some, if◌then◌else◌, refl, sym, subst, arith, cond_both, AllByRecursion, list_any, All-append, All-flat_map, All-weaken, sub_equality, turn_size, batch_token, added, implied_by, same_grain, same_name, same_sub, token_lt, each_value, value_at, with_value, Event, GrainId, StreamId, SubName, BATCH_EVENTS, BLOCK_EVENTS, MAILBOX_PLACES, Rule, Token, Entry, between, empty, grain_at, is_outstanding, is_spent, low_token, lower_bound, new_subscription, next_position, sub_at, with_sub, acknowledged, all_implied, caught_up, handled_at, is_stale, rewound, rewound_where, starting, subs_with, Reply, Leads, Stands, Limits, Op, Start, Latest, At, Delivery, Grain, PlainPartition, RunningTurn, Subscription}
use Rattle.stream_ident.specs.declared.ident.SubName.TheVariants as name
use Rattle.stream_model.specs.declared.op.Op.TheVariants as op
use Rattle.stream_model.specs.Publishing.{add_rule, publish, subscribe, subscribe_at, unsubscribe, unsubscribe_from}
use Rattle.stream_model.specs.Pulling.{ack, ack_of, ack_position, deliver, deliver_position, deliver_to, move, move_to, pull, pull_count, pull_events, pull_want, purge, purge_to, retry, retry_of}
use Rattle.stream_model.specs.Step.{step}
use Rattle.stream_model.specs.Turns.{begin, begin_for, begin_front, begin_in, begin_turn, commit, commit_for, commit_running, deactivate, deactivate_in}
use Rattle.stream_laws.proofs.DrainDeliver.{next-bounds}
use Rattle.stream_laws.proofs.KeyLists.{entry-found}

abbrev pub IsNear : ℕ → Subscription → Type 0
IsNear high r = r.is_open ≡ true → r.cursor ≤ max r.resume high

abbrev AreNear : ℕ → List (SubName × Subscription) → Type 0
AreNear high subs = AllByRecursion (λ (entry : SubName × Subscription). IsNear high entry.1) subs

abbrev AllNear : PlainPartition → Type 0
AllNear p = AreNear p.high p.subs

abbrev Stays : PlainPartition × Reply → Type 0
Stays out = AllNear out.0

-- ---- lists of subscriptions

near-with_value : (high : ℕ) (s : SubName) (r : Subscription) (subs : List (SubName × Subscription)) → IsNear high r → AreNear high subs → AreNear high (with_value same_sub s r subs)
near-with_value high s r [] here near = (here, tt)
near-with_value high s r (entry ∷ subs) here near =
    cond_both (same_sub s entry.0) ((entry.0, r) ∷ subs) (entry ∷ with_value same_sub s r subs) (AreNear high)
    (λ _. (here, near.1)) (λ _. (near.0, near-with_value high s r subs here near.1))

near-each : (high after : ℕ) (change : Subscription → Subscription) → ((r : Subscription) → IsNear high r → IsNear after (change r)) → (subs : List (SubName × Subscription)) → AreNear high subs → AreNear after (each_value change subs)
near-each high after change each [] near = tt
near-each high after change each (entry ∷ subs) near = (each entry.1 near.0, near-each high after change each subs near.1)

near-found : (high : ℕ) (s : SubName) (r : Subscription) (subs : List (SubName × Subscription)) → AreNear high subs → value_at same_sub s subs ≡ Some r → IsNear high r
near-found high s r subs near found = entry-found same_sub sub_equality (λ (_ : SubName) (r : Subscription). IsNear high r) subs s r near found

near-higher : (high after : ℕ) (subs : List (SubName × Subscription)) → high ≤ after → AreNear high subs → AreNear after subs
near-higher high after subs further near =
    All-weaken (λ (entry : SubName × Subscription). IsNear high entry.1) (λ (entry : SubName × Subscription). IsNear after entry.1)
    (λ entry before is_open. let within = before is_open in omega arith) subs near

near-with_sub : (p : PlainPartition) (s : SubName) (r : Subscription) → IsNear p.high r → AllNear p → AllNear (with_sub p s r)
near-with_sub p s r here near = near-with_value p.high s r p.subs here near

near-new : (high position : ℕ) (stream : StreamId) (grain : GrainId) (start : Token) → IsNear high (new_subscription stream grain start position)
near-new high position stream grain start is_open = omega arith

near-implied : (high position : ℕ) (event : Event) (rule : Rule) → AreNear high (implied_by (starting position) event rule)
near-implied high position event rule =
    cond_both (same_name event.stream.namespace rule.namespace && not (token_lt event.token (batch_token rule.from))) _ _ (AreNear high)
    (λ _. (near-new high position event.stream (record { kind = rule.kind; key = event.stream.key }) (batch_token rule.from), tt)) (λ _. tt)

near-all_implied : (high position : ℕ) (rules : List Rule) (events : List Event) → AreNear high (all_implied rules position events)
near-all_implied high position rules events =
    All-flat_map (λ (entry : SubName × Subscription). IsNear high entry.1) (λ event. _)
    (λ event. All-flat_map (λ (entry : SubName × Subscription). IsNear high entry.1) (implied_by (starting position) event) (near-implied high position event) rules) events

near-added : (high : ℕ) (subs : List (SubName × Subscription)) (entry : SubName × Subscription) → IsNear high entry.1 → AreNear high subs → AreNear high (added subs entry)
near-added high subs entry here near =
    cond_both (is_some (value_at same_sub entry.0 subs)) subs (subs ++ entry ∷ []) (AreNear high)
    (λ _. near) (λ _. All-append (λ (entry : SubName × Subscription). IsNear high entry.1) subs (entry ∷ []) near (here, tt))

near-fold : (high : ℕ) (subs entries : List (SubName × Subscription)) → AreNear high subs → AreNear high entries → AreNear high (fold added subs entries)
near-fold high subs [] near more = near
near-fold high subs (entry ∷ entries) near more = near-fold high (added subs entry) entries (near-added high subs entry more.0 near) more.1

-- ---- operations

near-publish : (p : PlainPartition) (stream : StreamId) (payloads : List (List ℕ)) → AllNear p → Stays (publish p stream payloads)
unfolding publish
near-publish p stream payloads near =
    cond_both ((length payloads == 0) || nat_lt BATCH_EVENTS (length payloads)) _ _ Stays (λ _. near)
    (λ _. cond_both (nat_lt p.limits.events (length p.log + length payloads)) _ _ Stays (λ _. near) (λ _. near))

near-subscribe_at : (p : PlainPartition) (stream : StreamId) (grain : GrainId) (start : Token) (position : ℕ) → AllNear p → Stays (subscribe_at p stream grain start position)
unfolding subscribe_at
near-subscribe_at p stream grain start position near =
    cond_both (nat_le p.limits.subs (length p.subs)) _ _ Stays (λ _. near)
    (λ _. near-with_value p.high (name.Explicit (suc p.explicit)) (new_subscription stream grain start position) p.subs (near-new p.high position stream grain start) near)

near-subscribe : (p : PlainPartition) (stream : StreamId) (grain : GrainId) (start : Start) → AllNear p → Stays (subscribe p stream grain start)
unfolding subscribe
near-subscribe p stream grain Latest near = near-subscribe_at p stream grain (batch_token p.batches) p.high near
near-subscribe p stream grain (At token) near =
    cond_both (token_lt token (low_token p)) _ _ Stays (λ _. near) (λ _. near-subscribe_at p stream grain token (lower_bound p token) near)

near-closed : (high : ℕ) (r : Subscription) → IsNear high (record r { is_open = false })
near-closed high r is_open = absurd (cc)

near-unsubscribe_from : (p : PlainPartition) (s : SubName) (found : Option Subscription) → AllNear p → Stays (unsubscribe_from p s found)
unfolding unsubscribe_from
near-unsubscribe_from p (name.Explicit number) None near = near
near-unsubscribe_from p (name.Implicit kind stream) None near = near
near-unsubscribe_from p (name.Implicit kind stream) (Some r) near = near
near-unsubscribe_from p (name.Explicit number) (Some r) near =
    cond_both (not r.is_open) _ _ Stays (λ _. near)
    (λ _. near-with_value p.high (name.Explicit number) (record r { is_open = false }) p.subs (near-closed p.high r) near)

near-unsubscribe : (p : PlainPartition) (s : SubName) → AllNear p → Stays (unsubscribe p s)
unfolding unsubscribe
near-unsubscribe p s near = near-unsubscribe_from p s (sub_at p s) near

near-add_rule : (p : PlainPartition) (kind namespace : List ℕ) → AllNear p → Stays (add_rule p kind namespace)
unfolding add_rule
near-add_rule p kind namespace near =
    cond_both (list_any (λ (rule : Rule). same_name kind rule.kind && same_name namespace rule.namespace) p.rules) _ _ Stays (λ _. near)
    (λ _. cond_both (nat_le p.limits.rules (length p.rules)) _ _ Stays (λ _. near) (λ _. near))

near-pull_events : (p : PlainPartition) (low high : ℕ) (subs : List (SubName × Subscription)) → AllNear p → AreNear high subs → Stays (pull_events p low high subs)
unfolding pull_events
near-pull_events p low high subs near after =
    cond_both (nat_lt p.limits.subs (length subs)) _ _ Stays (λ _. near) (λ _. after)

near-pull_count : (p : PlainPartition) (blocks count : ℕ) → AllNear p → Stays (pull_count p blocks count)
unfolding pull_count
near-pull_count p blocks count near =
    let events = between p.log p.high (p.high + count) in
    cond_both (count == 0) _ _ Stays (λ _. near)
    (λ _. near-pull_events p (p.low + BLOCK_EVENTS * blocks) (p.high + count) (subs_with p.rules p.high p.subs events) near
    (near-fold (p.high + count) p.subs (all_implied p.rules p.high events) (near-higher p.high (p.high + count) p.subs (omega arith) near) (near-all_implied (p.high + count) p.high p.rules events)))

near-pull_want : (p : PlainPartition) (want : ℕ) → AllNear p → Stays (pull_want p want)
unfolding pull_want
near-pull_want p want near = near-pull_count p _ _ near

near-pull : (p : PlainPartition) (generation max_events : ℕ) → AllNear p → Stays (pull p generation max_events)
unfolding pull
near-pull p generation max_events near =
    cond_both (is_stale p generation) _ _ Stays (λ _. near)
    (λ _. cond_both (p.high == length p.log) _ _ Stays (λ _. near) (λ _. near-pull_want p _ near))

near-caught_up : (p : PlainPartition) (s : SubName) (r : Subscription) → IsNear p.high r → IsNear p.high (caught_up p s r)
near-caught_up p s r before is_open =
    let within = before is_open in
    cond_both (is_outstanding p s r) r.resume (max r.cursor p.high) (λ (resume : ℕ). max r.cursor p.high ≤ max resume p.high)
    (λ _. omega arith) (λ _. omega arith)

near-deliver_position : (p : PlainPartition) (s : SubName) (r : Subscription) (st : Grain) (next : Option ℕ) → sub_at p s ≡ Some r → next_position p r ≡ next → AllNear p → Stays (deliver_position p s r st next)
unfolding deliver_position
near-deliver_position p s r st None found is_next near = near-with_sub p s (caught_up p s r) (near-caught_up p s r (near-found p.high s r p.subs near found)) near
near-deliver_position p s r st (Some position) found is_next near =
    let bounds = next-bounds p r position is_next in
    cond_both (nat_le MAILBOX_PLACES (length st.mailbox)) _ _ Stays (λ _. near)
    (λ _. cond_both (not st.active && is_spent p) _ _ Stays (λ _. near)
    (λ _. near-with_value p.high s (record r { cursor = suc position }) p.subs (λ is_open. omega (arith, bounds.1)) near))

near-deliver_to : (p : PlainPartition) (s : SubName) (found : Option Subscription) → sub_at p s ≡ found → AllNear p → Stays (deliver_to p s found)
unfolding deliver_to
near-deliver_to p s None found near = near
near-deliver_to p s (Some r) found near =
    cond_both (not r.is_open) _ _ Stays (λ _. near) (λ _. near-deliver_position p s r (grain_at p r.grain) (next_position p r) found refl near)

near-deliver : (p : PlainPartition) (generation : ℕ) (s : SubName) → AllNear p → Stays (deliver p generation s)
unfolding deliver
near-deliver p generation s near = cond_both (is_stale p generation) _ _ Stays (λ _. near) (λ _. near-deliver_to p s (sub_at p s) refl near)

near-rewound : (high : ℕ) (r : Subscription) → IsNear high (rewound r)
near-rewound high r is_open = omega arith

near-retry_of : (p : PlainPartition) (s : SubName) (found : Option Subscription) → AllNear p → Stays (retry_of p s found)
unfolding retry_of
near-retry_of p s None near = near
near-retry_of p s (Some r) near = cond_both (not r.is_open) _ _ Stays (λ _. near) (λ _. near-with_sub p s (rewound r) (near-rewound p.high r) near)

near-retry : (p : PlainPartition) (generation : ℕ) (s : SubName) → AllNear p → Stays (retry p generation s)
unfolding retry
near-retry p generation s near = cond_both (is_stale p generation) _ _ Stays (λ _. near) (λ _. near-retry_of p s (sub_at p s) near)

near-acknowledged : (high : ℕ) (r : Subscription) (position : ℕ) → IsNear high r → IsNear high (acknowledged r position)
near-acknowledged high r position before is_open = let within = before is_open in omega arith

near-ack_position : (p : PlainPartition) (s : SubName) (r : Subscription) (positions : List ℕ) → sub_at p s ≡ Some r → AllNear p → Stays (ack_position p s r positions)
unfolding ack_position
near-ack_position p s r [] found near = near
near-ack_position p s r (position ∷ positions) found near =
    near-with_sub p s (acknowledged r position) (near-acknowledged p.high r position (near-found p.high s r p.subs near found)) near

near-ack_of : (p : PlainPartition) (s : SubName) (token : Token) (found : Option Subscription) → sub_at p s ≡ found → AllNear p → Stays (ack_of p s token found)
unfolding ack_of
near-ack_of p s token None found near = near
near-ack_of p s token (Some r) found near =
    cond_both (not r.is_open) _ _ Stays (λ _. near) (λ _. near-ack_position p s r (handled_at p r token) found near)

near-ack : (p : PlainPartition) (generation : ℕ) (s : SubName) (token : Token) → AllNear p → Stays (ack p generation s token)
unfolding ack
near-ack p generation s token near = cond_both (is_stale p generation) _ _ Stays (λ _. near) (λ _. near-ack_of p s token (sub_at p s) refl near)

near-purge : (p : PlainPartition) (generation keep : ℕ) → AllNear p → Stays (purge p generation keep)
unfolding purge purge_to
near-purge p generation keep near = cond_both (is_stale p generation) _ _ Stays (λ _. near) (λ _. near)

near-moved : (high after : ℕ) (r : Subscription) → IsNear high r → IsNear after (rewound_where r.is_open r)
near-moved high after r before is_open =
    subst (λ b. (if b then r.resume else r.cursor) ≤ max r.resume after) (sym is_open) (omega arith)

near-move : (p : PlainPartition) (silo : ℕ) → AllNear p → Stays (move p silo)
unfolding move move_to
near-move p silo near =
    cond_both (is_spent p) _ _ Stays (λ _. near)
    (λ _. near-each p.high _ (λ (r : Subscription). rewound_where r.is_open r) (near-moved p.high _) p.subs near)

near-begin_for : (p : PlainPartition) (g : GrainId) (size : ℕ) (st : Grain) (d : Delivery) (deliveries : List Delivery) (found : Option Subscription) → AllNear p → Stays (begin_for p g size st d deliveries found)
unfolding begin_for begin_turn
near-begin_for p g size st d deliveries None near = near
near-begin_for p g size st d deliveries (Some r) near =
    cond_both (nat_lt d.position _) _ _ Stays (λ _. near) (λ _. cond_both (is_spent p) _ _ Stays (λ _. near) (λ _. near))

near-begin_front : (p : PlainPartition) (g : GrainId) (size : ℕ) (st : Grain) (mailbox : List Delivery) → AllNear p → Stays (begin_front p g size st mailbox)
unfolding begin_front
near-begin_front p g size st [] near = near
near-begin_front p g size st (d ∷ deliveries) near = near-begin_for p g size st d deliveries (sub_at p d.sub) near

near-begin : (p : PlainPartition) (g : GrainId) (max_events : ℕ) → AllNear p → Stays (begin p g max_events)
unfolding begin begin_in
near-begin p g max_events near =
    let st = grain_at p g in
    cond_both (is_some st.running) _ _ Stays (λ _. near)
    (λ _. cond_both (not st.active) _ _ Stays (λ _. near) (λ _. near-begin_front p g (turn_size max_events) st st.mailbox near))

near-commit_for : (p : PlainPartition) (g : GrainId) (st : Grain) (run : RunningTurn) (note : ℕ) (found : Option Subscription) → sub_at p run.sub ≡ found → AllNear p → Stays (commit_for p g st run note found)
unfolding commit_for
near-commit_for p g st run note None found near = near
near-commit_for p g st run note (Some r) found near =
    let here : IsNear p.high r = near-found p.high run.sub r p.subs near found in
    cond_both (not r.is_open) _ _ Stays (λ _. near)
    (λ _. near-with_value p.high run.sub (record r { handled = r.handled ++ run.positions; note = note }) p.subs here near)

near-commit_running : (p : PlainPartition) (g : GrainId) (st : Grain) (activation turn note : ℕ) (running : Option RunningTurn) → AllNear p → Stays (commit_running p g st activation turn note running)
unfolding commit_running
near-commit_running p g st activation turn note None near = near
near-commit_running p g st activation turn note (Some run) near =
    cond_both ((activation == st.activation) && (turn == run.turn)) _ _ Stays (λ _. near-commit_for p g st run note (sub_at p run.sub) refl near) (λ _. near)

near-commit : (p : PlainPartition) (g : GrainId) (activation turn note : ℕ) → AllNear p → Stays (commit p g activation turn note)
unfolding commit
near-commit p g activation turn note near = near-commit_running p g (grain_at p g) activation turn note (grain_at p g).running near

near-rewound_where : (high : ℕ) (b : Bool) (r : Subscription) → IsNear high r → IsNear high (rewound_where b r)
near-rewound_where high b r before is_open =
    let within = before is_open in
    cond_both b r.resume r.cursor (λ (cursor : ℕ). cursor ≤ max r.resume high) (λ _. omega arith) (λ _. within)

near-deactivate : (p : PlainPartition) (g : GrainId) → AllNear p → Stays (deactivate p g)
unfolding deactivate deactivate_in
near-deactivate p g near =
    let st = grain_at p g in
    cond_both (not st.active) _ _ Stays (λ _. near)
    (λ _. near-each p.high p.high (λ (r : Subscription). rewound_where (same_grain g r.grain && r.is_open) r)
    (λ r before. near-rewound_where p.high (same_grain g r.grain && r.is_open) r before) p.subs near)

near-step : (p : PlainPartition) (o : Op) → AllNear p → Stays (step p o)
unfolding step
near-step p (op.Publish stream payloads) near = near-publish p stream payloads near
near-step p (op.Subscribe stream grain start) near = near-subscribe p stream grain start near
near-step p (op.Unsubscribe sub) near = near-unsubscribe p sub near
near-step p (op.AddRule kind namespace) near = near-add_rule p kind namespace near
near-step p (op.Pull generation max_events) near = near-pull p generation max_events near
near-step p (op.Deliver generation sub) near = near-deliver p generation sub near
near-step p (op.Retry generation sub) near = near-retry p generation sub near
near-step p (op.Ack generation sub token) near = near-ack p generation sub token near
near-step p (op.Purge generation keep) near = near-purge p generation keep near
near-step p (op.Begin grain max_events) near = near-begin p grain max_events near
near-step p (op.Commit grain activation turn note) near = near-commit p grain activation turn note near
near-step p (op.Deactivate grain) near = near-deactivate p grain near
near-step p (op.Move silo) near = near-move p silo near
near-step p (op.Ready after) near = near
near-step p (op.Due after) near = near
near-step p op.Quiet near = near

near-leads : (p : PlainPartition) (entries : List Entry) (q : PlainPartition) → AllNear p → Leads p entries q → AllNear q
near-leads p [] q near is = subst AllNear (sym is) near
near-leads p (e ∷ entries) q near leads = near-leads (step p e.op).0 entries q (near-step p e.op near) leads.1

-- after every legal history
pub near-legal : (blocks : ℕ) (limits : Limits) (history : List Entry) (p : PlainPartition) → Stands blocks limits history p → (s : SubName) (r : Subscription) → sub_at p s ≡ Some r → IsNear p.high r
near-legal blocks limits history p stands s r found = near-found p.high s r p.subs (near-leads (empty blocks limits) history p tt stands) found
