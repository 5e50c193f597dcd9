-- Every step leaves the keys of subscriptions and grains unique, the number of blocks and the limits as they
-- are, and no more in the cache than the blocks hold.
use Rattle.stream_laws.proofs.Prelude.{◌≡◌, ℕ, suc, ◌+◌, ◌-◌, ◌*◌, ◌≤◌, min, ◌==◌, ◌&&◌, ◌||◌, not, nat_lt, nat_le, false, List, [], ◌∷◌, ◌++◌, length, fold, Option, Some, None, is_some, if◌then◌else◌, refl, sym, subst, arith, cond_both, list_any, grain_equality, sub_equality, turn_size, batch_token, added, same_grain, same_name, same_sub, token_lt, past, value_at, with_value, GrainId, StreamId, SubName, BATCH_EVENTS, BLOCK_EVENTS, MAILBOX_PLACES, Rule, Token, Entry, between, empty, grain_at, is_spent, low_token, lower_bound, new_subscription, next_position, sub_at, with_sub, without, acknowledged, all_implied, drops, purges, room, caught_up, handled_at, is_stale, rewound, rewound_where, subs_with, woken, Reply, Leads, Stands, ended, Limits, Op, Start, Latest, At, Delivery, Grain, PlainPartition, RunningTurn, Subscription}
use Rattle.stream_ident.specs.declared.ident.SubName.TheVariants as name
use Rattle.stream_model.specs.declared.op.Op.TheVariants as op
use Rattle.stream_model.specs.Publishing.{add_rule, publish, subscribe, subscribe_at, unsubscribe, unsubscribe_from}
use Rattle.stream_model.specs.Step.{step}
use Rattle.stream_model.specs.Turns.{begin, begin_for, begin_front, begin_in, begin_turn, commit, commit_for, commit_running, deactivate, deactivate_in}
use Rattle.stream_model.specs.Pulling.{ack, ack_of, ack_position, deliver, deliver_position, deliver_to, move, move_to, pull, pull_count, pull_events, pull_want, purge, purge_to, retry, retry_of}
use Rattle.stream_laws.proofs.Unique.{AreUnique, unique-changed_value, unique-each_value, unique-push, unique-with_value}

pub record IsSteady (n : ℕ × Limits) (p : PlainPartition) : Type 0 where
  pub subs : AreUnique same_sub p.subs
  pub grains : AreUnique same_grain p.grains
  pub blocks : p.blocks ≡ n.0
  pub limits : p.limits ≡ n.1
  pub size : p.high ≤ p.low + BLOCK_EVENTS * p.blocks

abbrev Stays : ℕ × Limits → PlainPartition × Reply → Type 0
Stays n out = IsSteady n out.0

steady-publish : (n : ℕ × Limits) (p : PlainPartition) (stream : StreamId) (payloads : List (List ℕ)) → IsSteady n p → IsSteady n (publish p stream payloads).0
unfolding publish
steady-publish n p stream payloads steady =
    cond_both ((length payloads == 0) || nat_lt BATCH_EVENTS (length payloads)) _ _ (Stays n) (λ _. steady)
    (λ _. cond_both (nat_lt p.limits.events (length p.log + length payloads)) _ _ (Stays n) (λ _. steady)
    (λ _. record { subs = steady.subs; grains = steady.grains; blocks = steady.blocks; limits = steady.limits; size = steady.size }))

-- one subscription set
steady-with_sub : (n : ℕ × Limits) (p : PlainPartition) (s : SubName) (r : Subscription) → IsSteady n p → IsSteady n (with_sub p s r)
steady-with_sub n p s r steady = record { subs = unique-with_value same_sub sub_equality s r p.subs steady.subs; grains = steady.grains; blocks = steady.blocks; limits = steady.limits; size = steady.size }

steady-subscribe_at : (n : ℕ × Limits) (p : PlainPartition) (stream : StreamId) (grain : GrainId) (start : Token) (position : ℕ) → IsSteady n p → IsSteady n (subscribe_at p stream grain start position).0
unfolding subscribe_at
steady-subscribe_at n p stream grain start position steady =
    cond_both (nat_le p.limits.subs (length p.subs)) _ _ (Stays n) (λ _. steady)
    (λ _. record { subs = unique-with_value same_sub sub_equality (name.Explicit (suc p.explicit)) (new_subscription stream grain start position) p.subs steady.subs; grains = steady.grains; blocks = steady.blocks; limits = steady.limits; size = steady.size })

steady-subscribe : (n : ℕ × Limits) (p : PlainPartition) (stream : StreamId) (grain : GrainId) (start : Start) → IsSteady n p → IsSteady n (subscribe p stream grain start).0
unfolding subscribe
steady-subscribe n p stream grain Latest steady = steady-subscribe_at n p stream grain (batch_token p.batches) p.high steady
steady-subscribe n p stream grain (At token) steady =
    cond_both (token_lt token (low_token p)) _ _ (Stays n) (λ _. steady) (λ _. steady-subscribe_at n p stream grain token (lower_bound p token) steady)

steady-unsubscribe_from : (n : ℕ × Limits) (p : PlainPartition) (s : SubName) (found : Option Subscription) → IsSteady n p → IsSteady n (unsubscribe_from p s found).0
unfolding unsubscribe_from
steady-unsubscribe_from n p (name.Explicit number) None steady = steady
steady-unsubscribe_from n p (name.Implicit kind stream) None steady = steady
steady-unsubscribe_from n p (name.Implicit kind stream) (Some r) steady = steady
steady-unsubscribe_from n p (name.Explicit number) (Some r) steady =
    cond_both (not r.is_open) _ _ (Stays n) (λ _. steady)
    (λ _. record {
      subs = unique-with_value same_sub sub_equality (name.Explicit number) (record r { is_open = false }) p.subs steady.subs;
      grains = unique-changed_value same_grain r.grain (without (name.Explicit number)) p.grains steady.grains;
      blocks = steady.blocks;
      limits = steady.limits;
      size = steady.size;
    })

steady-unsubscribe : (n : ℕ × Limits) (p : PlainPartition) (s : SubName) → IsSteady n p → IsSteady n (unsubscribe p s).0
unfolding unsubscribe
steady-unsubscribe n p s steady = steady-unsubscribe_from n p s (sub_at p s) steady

steady-add_rule : (n : ℕ × Limits) (p : PlainPartition) (kind namespace : List ℕ) → IsSteady n p → IsSteady n (add_rule p kind namespace).0
unfolding add_rule
steady-add_rule n p kind namespace steady =
    cond_both (list_any (λ (rule : Rule). same_name kind rule.kind && same_name namespace rule.namespace) p.rules) _ _ (Stays n) (λ _. steady)
    (λ _. cond_both (nat_le p.limits.rules (length p.rules)) _ _ (Stays n) (λ _. steady)
    (λ _. record { subs = steady.subs; grains = steady.grains; blocks = steady.blocks; limits = steady.limits; size = steady.size }))

unique-added : (subs : List (SubName × Subscription)) (entry : SubName × Subscription) → AreUnique same_sub subs → AreUnique same_sub (added subs entry)
unique-added subs entry unique =
    (elim (value_at same_sub entry.0 subs) as (λ (o : Option Subscription). value_at same_sub entry.0 subs ≡ o → AreUnique same_sub (if is_some o then subs else subs ++ entry ∷ [])) [
      | None ↦ λ new. unique-push same_sub sub_equality subs entry new unique
      | Some r ↦ λ there. unique
    ]) refl

pub unique-fold : (subs entries : List (SubName × Subscription)) → AreUnique same_sub subs → AreUnique same_sub (fold added subs entries)
unique-fold subs [] unique = unique
unique-fold subs (entry ∷ entries) unique = unique-fold (added subs entry) entries (unique-added subs entry unique)

-- what a pull adds fits in what it drops and the room that there was
pulled-size : (low high most blocks count : ℕ) → high ≤ low + BLOCK_EVENTS * most → count ≤ BLOCK_EVENTS * most - (high - low) + BLOCK_EVENTS * blocks → high + count ≤ low + BLOCK_EVENTS * blocks + BLOCK_EVENTS * most
pulled-size low high most blocks count within room = omega arith

min-most : (a b : ℕ) → min a b ≤ b
min-most a b = omega arith

steady-pull_events : (n : ℕ × Limits) (p : PlainPartition) (low high : ℕ) (subs : List (SubName × Subscription)) → IsSteady n p → AreUnique same_sub subs → high ≤ low + BLOCK_EVENTS * p.blocks → IsSteady n (pull_events p low high subs).0
unfolding pull_events
steady-pull_events n p low high subs steady unique size =
    cond_both (nat_lt p.limits.subs (length subs)) _ _ (Stays n) (λ _. steady)
    (λ _. record { subs = unique; grains = steady.grains; blocks = steady.blocks; limits = steady.limits; size = size })

steady-pull_count : (n : ℕ × Limits) (p : PlainPartition) (blocks count : ℕ) → IsSteady n p → count ≤ room p + BLOCK_EVENTS * blocks → IsSteady n (pull_count p blocks count).0
unfolding pull_count
steady-pull_count n p blocks count steady within =
    cond_both (count == 0) _ _ (Stays n) (λ _. steady)
    (λ _. steady-pull_events n p (p.low + BLOCK_EVENTS * blocks) (p.high + count) (subs_with p.rules p.high p.subs (between p.log p.high (p.high + count))) steady
    (unique-fold p.subs (all_implied p.rules p.high (between p.log p.high (p.high + count))) steady.subs)
    (pulled-size p.low p.high p.blocks blocks count steady.size within))

steady-pull_want : (n : ℕ × Limits) (p : PlainPartition) (want : ℕ) → IsSteady n p → IsSteady n (pull_want p want).0
unfolding pull_want
steady-pull_want n p want steady = steady-pull_count n p _ _ steady (min-most want (room p + BLOCK_EVENTS * drops p want))

steady-pull : (n : ℕ × Limits) (p : PlainPartition) (generation max_events : ℕ) → IsSteady n p → IsSteady n (pull p generation max_events).0
unfolding pull
steady-pull n p generation max_events steady =
    cond_both (is_stale p generation) _ _ (Stays n) (λ _. steady)
    (λ _. cond_both (p.high == length p.log) _ _ (Stays n) (λ _. steady) (λ _. steady-pull_want n p _ steady))

steady-deliver_position : (n : ℕ × Limits) (p : PlainPartition) (s : SubName) (r : Subscription) (st : Grain) (next : Option ℕ) → IsSteady n p → IsSteady n (deliver_position p s r st next).0
unfolding deliver_position
steady-deliver_position n p s r st None steady = steady-with_sub n p s (caught_up p s r) steady
steady-deliver_position n p s r st (Some position) steady =
    cond_both (nat_le MAILBOX_PLACES (length st.mailbox)) _ _ (Stays n) (λ _. steady)
    (λ _. cond_both (not st.active && is_spent p) _ _ (Stays n) (λ _. steady)
    (λ _. record {
      subs = unique-with_value same_sub sub_equality s (record r { cursor = suc position }) p.subs steady.subs;
      grains = unique-with_value same_grain grain_equality r.grain (woken st s position) p.grains steady.grains;
      blocks = steady.blocks;
      limits = steady.limits;
      size = steady.size;
    }))

steady-deliver_to : (n : ℕ × Limits) (p : PlainPartition) (s : SubName) (found : Option Subscription) → IsSteady n p → IsSteady n (deliver_to p s found).0
unfolding deliver_to
steady-deliver_to n p s None steady = steady
steady-deliver_to n p s (Some r) steady =
    cond_both (not r.is_open) _ _ (Stays n) (λ _. steady) (λ _. steady-deliver_position n p s r (grain_at p r.grain) (next_position p r) steady)

steady-deliver : (n : ℕ × Limits) (p : PlainPartition) (generation : ℕ) (s : SubName) → IsSteady n p → IsSteady n (deliver p generation s).0
unfolding deliver
steady-deliver n p generation s steady = cond_both (is_stale p generation) _ _ (Stays n) (λ _. steady) (λ _. steady-deliver_to n p s (sub_at p s) steady)

steady-retry_of : (n : ℕ × Limits) (p : PlainPartition) (s : SubName) (found : Option Subscription) → IsSteady n p → IsSteady n (retry_of p s found).0
unfolding retry_of
steady-retry_of n p s None steady = steady
steady-retry_of n p s (Some r) steady = cond_both (not r.is_open) _ _ (Stays n) (λ _. steady) (λ _. steady-with_sub n p s (rewound r) steady)

steady-retry : (n : ℕ × Limits) (p : PlainPartition) (generation : ℕ) (s : SubName) → IsSteady n p → IsSteady n (retry p generation s).0
unfolding retry
steady-retry n p generation s steady = cond_both (is_stale p generation) _ _ (Stays n) (λ _. steady) (λ _. steady-retry_of n p s (sub_at p s) steady)

steady-ack_position : (n : ℕ × Limits) (p : PlainPartition) (s : SubName) (r : Subscription) (positions : List ℕ) → IsSteady n p → IsSteady n (ack_position p s r positions).0
unfolding ack_position
steady-ack_position n p s r [] steady = steady
steady-ack_position n p s r (position ∷ positions) steady = steady-with_sub n p s (acknowledged r position) steady

steady-ack_of : (n : ℕ × Limits) (p : PlainPartition) (s : SubName) (token : Token) (found : Option Subscription) → IsSteady n p → IsSteady n (ack_of p s token found).0
unfolding ack_of
steady-ack_of n p s token None steady = steady
steady-ack_of n p s token (Some r) steady =
    cond_both (not r.is_open) _ _ (Stays n) (λ _. steady) (λ _. steady-ack_position n p s r (handled_at p r token) steady)

steady-ack : (n : ℕ × Limits) (p : PlainPartition) (generation : ℕ) (s : SubName) (token : Token) → IsSteady n p → IsSteady n (ack p generation s token).0
unfolding ack
steady-ack n p generation s token steady = cond_both (is_stale p generation) _ _ (Stays n) (λ _. steady) (λ _. steady-ack_of n p s token (sub_at p s) steady)

-- and what a purge leaves is no more than there was
purged-size : (low high most dropped : ℕ) → high ≤ low + most → high ≤ low + dropped + most
purged-size low high most dropped within = omega arith

steady-purge : (n : ℕ × Limits) (p : PlainPartition) (generation keep : ℕ) → IsSteady n p → IsSteady n (purge p generation keep).0
unfolding purge purge_to
steady-purge n p generation keep steady =
    cond_both (is_stale p generation) _ _ (Stays n) (λ _. steady) (λ _. record { subs = steady.subs; grains = steady.grains; blocks = steady.blocks; limits = steady.limits; size = purged-size p.low p.high (BLOCK_EVENTS * p.blocks) (BLOCK_EVENTS * purges p keep) steady.size })

steady-move : (n : ℕ × Limits) (p : PlainPartition) (silo : ℕ) → IsSteady n p → IsSteady n (move p silo).0
unfolding move move_to
steady-move n p silo steady =
    cond_both (is_spent p) _ _ (Stays n) (λ _. steady)
    (λ _. record { subs = unique-each_value same_sub (λ (r : Subscription). rewound_where r.is_open r) p.subs steady.subs; grains = steady.grains; blocks = steady.blocks; limits = steady.limits; size = omega arith })

-- one grain set
steady-with_grain : (n : ℕ × Limits) (p : PlainPartition) (g : GrainId) (st : Grain) (rises turns : ℕ) → IsSteady n p → IsSteady n (record p { grains = with_value same_grain g st p.grains; rises = rises; turns = turns })
steady-with_grain n p g st rises turns steady =
    record { subs = steady.subs; grains = unique-with_value same_grain grain_equality g st p.grains steady.grains; blocks = steady.blocks; limits = steady.limits; size = steady.size }

steady-begin_for : (n : ℕ × Limits) (p : PlainPartition) (g : GrainId) (size : ℕ) (st : Grain) (d : Delivery) (deliveries : List Delivery) (found : Option Subscription) → IsSteady n p → IsSteady n (begin_for p g size st d deliveries found).0
unfolding begin_for begin_turn
steady-begin_for n p g size st d deliveries None steady = steady
steady-begin_for n p g size st d deliveries (Some r) steady =
    cond_both (nat_lt d.position (past r.handled)) _ _ (Stays n) (λ _. steady-with_grain n p g (record st { mailbox = deliveries }) p.rises p.turns steady)
    (λ _. cond_both (is_spent p) _ _ (Stays n) (λ _. steady) (λ _. steady-with_grain n p g _ (suc p.rises) (suc p.turns) steady))

steady-begin_front : (n : ℕ × Limits) (p : PlainPartition) (g : GrainId) (size : ℕ) (st : Grain) (mailbox : List Delivery) → IsSteady n p → IsSteady n (begin_front p g size st mailbox).0
unfolding begin_front
steady-begin_front n p g size st [] steady = steady
steady-begin_front n p g size st (d ∷ deliveries) steady = steady-begin_for n p g size st d deliveries (sub_at p d.sub) steady

steady-begin : (n : ℕ × Limits) (p : PlainPartition) (g : GrainId) (max_events : ℕ) → IsSteady n p → IsSteady n (begin p g max_events).0
unfolding begin begin_in
steady-begin n p g max_events steady =
    let st = grain_at p g in
    cond_both (is_some st.running) _ _ (Stays n) (λ _. steady)
    (λ _. cond_both (not st.active) _ _ (Stays n) (λ _. steady) (λ _. steady-begin_front n p g (turn_size max_events) st st.mailbox steady))

steady-commit_for : (n : ℕ × Limits) (p : PlainPartition) (g : GrainId) (st : Grain) (run : RunningTurn) (note : ℕ) (found : Option Subscription) → IsSteady n p → IsSteady n (commit_for p g st run note found).0
unfolding commit_for
steady-commit_for n p g st run note None steady = steady
steady-commit_for n p g st run note (Some r) steady =
    let after = steady-with_grain n p g (record st { running = None }) p.rises p.turns steady in
    cond_both (not r.is_open) _ _ (Stays n) (λ _. after)
    (λ _. steady-with_sub n (ended p g st) run.sub (record r { handled = r.handled ++ run.positions; note = note }) after)

steady-commit_running : (n : ℕ × Limits) (p : PlainPartition) (g : GrainId) (st : Grain) (activation turn note : ℕ) (running : Option RunningTurn) → IsSteady n p → IsSteady n (commit_running p g st activation turn note running).0
unfolding commit_running
steady-commit_running n p g st activation turn note None steady = steady
steady-commit_running n p g st activation turn note (Some run) steady =
    cond_both ((activation == st.activation) && (turn == run.turn)) _ _ (Stays n) (λ _. steady-commit_for n p g st run note (sub_at p run.sub) steady) (λ _. steady)

steady-commit : (n : ℕ × Limits) (p : PlainPartition) (g : GrainId) (activation turn note : ℕ) → IsSteady n p → IsSteady n (commit p g activation turn note).0
unfolding commit
steady-commit n p g activation turn note steady = steady-commit_running n p g (grain_at p g) activation turn note (grain_at p g).running steady

steady-deactivate : (n : ℕ × Limits) (p : PlainPartition) (g : GrainId) → IsSteady n p → IsSteady n (deactivate p g).0
unfolding deactivate deactivate_in
steady-deactivate n p g steady =
    let st = grain_at p g in
    cond_both (not st.active) _ _ (Stays n) (λ _. steady)
    (λ _. record {
      subs = unique-each_value same_sub (λ (r : Subscription). rewound_where (same_grain g r.grain && r.is_open) r) p.subs steady.subs;
      grains = unique-with_value same_grain grain_equality g (record st { active = false; mailbox = []; running = None }) p.grains steady.grains;
      blocks = steady.blocks;
      limits = steady.limits;
      size = steady.size;
    })

pub steady-step : (n : ℕ × Limits) (p : PlainPartition) (o : Op) → IsSteady n p → IsSteady n (step p o).0
unfolding step
steady-step n p (op.Publish stream payloads) steady = steady-publish n p stream payloads steady
steady-step n p (op.Subscribe stream grain start) steady = steady-subscribe n p stream grain start steady
steady-step n p (op.Unsubscribe sub) steady = steady-unsubscribe n p sub steady
steady-step n p (op.AddRule kind namespace) steady = steady-add_rule n p kind namespace steady
steady-step n p (op.Pull generation max_events) steady = steady-pull n p generation max_events steady
steady-step n p (op.Deliver generation sub) steady = steady-deliver n p generation sub steady
steady-step n p (op.Retry generation sub) steady = steady-retry n p generation sub steady
steady-step n p (op.Ack generation sub token) steady = steady-ack n p generation sub token steady
steady-step n p (op.Purge generation keep) steady = steady-purge n p generation keep steady
steady-step n p (op.Begin grain max_events) steady = steady-begin n p grain max_events steady
steady-step n p (op.Commit grain activation turn note) steady = steady-commit n p grain activation turn note steady
steady-step n p (op.Deactivate grain) steady = steady-deactivate n p grain steady
steady-step n p (op.Move silo) steady = steady-move n p silo steady
steady-step n p (op.Ready after) steady = steady
steady-step n p (op.Due after) steady = steady
steady-step n p op.Quiet steady = steady

steady-leads : (n : ℕ × Limits) (p : PlainPartition) (entries : List Entry) (q : PlainPartition) → IsSteady n p → Leads p entries q → IsSteady n q
steady-leads n p [] q steady is = subst (λ (q : PlainPartition). IsSteady n q) (sym is) steady
steady-leads n p (e ∷ entries) q steady leads = steady-leads n (step p e.op).0 entries q (steady-step n p e.op steady) leads.1

-- the limits are its own
pub steady-own : (n : ℕ × Limits) (p : PlainPartition) → IsSteady n p → IsSteady (n.0, p.limits) p
steady-own n p steady = record { subs = steady.subs; grains = steady.grains; blocks = steady.blocks; limits = refl; size = steady.size }

-- after every legal history
pub steady-legal : (blocks : ℕ) (limits : Limits) (history : List Entry) (p : PlainPartition) → Stands blocks limits history p → IsSteady (blocks, limits) p
steady-legal blocks limits history p stands = steady-leads (blocks, limits) (empty blocks limits) history p (record { subs = tt; grains = tt; blocks = refl; limits = refl; size = omega arith }) stands
