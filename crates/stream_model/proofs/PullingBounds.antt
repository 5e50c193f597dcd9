-- Pull, Deliver, Retry, Ack, Purge and Move keep the limits.
use Rattle.stream_model.proofs.Prelude.{◌≡◌, ℕ, ◌+◌, ◌-◌, ◌*◌, ◌≤◌, ◌==◌, ◌&&◌, min, not, nat_lt, false, List, [], ◌∷◌, length, fold, is_some, arith, suc, ◌<◌, Bool, true, nat_le, Option, Some, None, if◌then◌else◌, refl, cond_both, ltb-false, leb-false, AllByRecursion, flat_map, All-append, All-flat_map, All-push, pull_size, batch_token, is_owed, same_name, same_sub, token_lt, value_at, least_with, Event, GrainId, StreamId, SubName, BLOCK_EVENTS, MAILBOX_PLACES, Rule, Token}
use Rattle.stream_ident.specs.Implying.{added}
use Rattle.stream_ident.specs.declared.ident.SubName.TheVariants as name
use Rattle.stream_model.specs.declared.plain.PlainPartition.{PlainPartition}
use Rattle.stream_model.specs.declared.plain.Subscription.{Subscription}
use Rattle.stream_model.specs.Bounds.{AreIn, IsGiven, IsWithinLimits}
use Rattle.stream_model.specs.Positions.{between, new_subscription, grain_at, is_spent, next_position, sub_at, with_sub, open_resumes}
use Rattle.stream_model.specs.Pulling.{all_implied, drops, implied, is_stale, pull, pull_count, pull_events, pull_want, room, caught_up, deliver, deliver_position, deliver_to, delivered, ack, ack_of, ack_position, acknowledged, handled_at, retry, retry_of, rewound, purge, purge_to, purges, move, move_to, woken}
use Rattle.stream_model.specs.declared.plain.Delivery.{Delivery}
use Rattle.stream_model.specs.declared.plain.Grain.{Grain}
use Rattle.stream_ident.proofs.NewNames.{length-fold}
use Rattle.stream_model.proofs.PullingSteps.{subs_up_to}
use Rattle.stream_model.proofs.SubNames.{AreGiven}
use Rattle.stream_model.proofs.RecordBounds.{KeepsLimits, GrainFits, found-in-log, grain-fits, grain-set, handled-in, option_both, sub-set, rewound-set}

-- what holds of each subscription that a rule makes
abbrev HoldsOfNew : (SubName × Subscription → Type 0) → Type 0
HoldsOfNew Q =
    (kind : List ℕ) (stream : StreamId) (grain : GrainId) (start : Token) (position : ℕ) → Q (name.Implicit kind stream, new_subscription stream grain start position)

All-implied : (Q : SubName × Subscription → Type 0) → HoldsOfNew Q → (position : ℕ) (event : Event) (rule : Rule) → AllByRecursion Q (implied position event rule)
All-implied Q new position event rule =
    cond_both (same_name event.stream.namespace rule.namespace && not (token_lt event.token (batch_token rule.from))) _ _ (AllByRecursion Q)
    (λ _. (new rule.kind event.stream (record { kind = rule.kind; key = event.stream.key }) (batch_token rule.from) position, tt))
    (λ _. tt)

All-all_implied : (Q : SubName × Subscription → Type 0) → HoldsOfNew Q → (rules : List Rule) (position : ℕ) (events : List Event) → AllByRecursion Q (all_implied rules position events)
All-all_implied Q new rules position events =
    All-flat_map Q (λ event. flat_map (implied position event) rules) (λ event. All-flat_map Q (implied position event) (All-implied Q new position event) rules) events

All-added : (Q : SubName × Subscription → Type 0) (subs : List (SubName × Subscription)) (entry : SubName × Subscription) → AllByRecursion Q subs → Q entry → AllByRecursion Q (added subs entry)
All-added Q subs entry all here =
    cond_both (is_some (value_at same_sub entry.0 subs)) _ _ (AllByRecursion Q) (λ _. all) (λ _. All-append Q subs (entry ∷ []) all (here, tt))

All-fold : (Q : SubName × Subscription → Type 0) (subs entries : List (SubName × Subscription)) → AllByRecursion Q subs → AllByRecursion Q entries → AllByRecursion Q (fold added subs entries)
All-fold Q subs [] all more = all
All-fold Q subs (entry ∷ entries) all more = All-fold Q (added subs entry) entries (All-added Q subs entry all more.0) more.1

bounds-pulled : (p : PlainPartition) (low high : ℕ) (subs : List (SubName × Subscription)) → IsWithinLimits p → length p.subs ≤ length subs → AreGiven p.explicit subs → AllByRecursion (λ entry. AreIn p.log entry.1.handled) subs → nat_lt p.limits.subs (length subs) ≡ false → IsWithinLimits (record p { low = low; high = high; subs = subs })
bounds-pulled p low high subs within longer given handled fits =
    let fewer : length subs ≤ p.limits.subs = ltb-false p.limits.subs (length subs) fits in
    let numbered : p.explicit ≤ length subs = omega (arith, within.explicit) in
    assumption

bounds-pull_events : (p : PlainPartition) (low high : ℕ) (subs : List (SubName × Subscription)) → IsWithinLimits p → length p.subs ≤ length subs → AreGiven p.explicit subs → AllByRecursion (λ entry. AreIn p.log entry.1.handled) subs → IsWithinLimits (pull_events p low high subs).0
unfolding pull_events
bounds-pull_events p low high subs within longer given handled =
    cond_both (nat_lt p.limits.subs (length subs)) _ _ KeepsLimits (λ _. within) (bounds-pulled p low high subs within longer given handled)

bounds-pull_count : (p : PlainPartition) (blocks count : ℕ) → IsWithinLimits p → IsWithinLimits (pull_count p blocks count).0
unfolding pull_count
bounds-pull_count p blocks count within =
    let entries = all_implied p.rules p.high (between p.log p.high (p.high + count)) in
    let Given : SubName × Subscription → Type 0 = λ entry. IsGiven p.explicit entry.0 in
    let Handled : SubName × Subscription → Type 0 = λ entry. AreIn p.log entry.1.handled in
    let events = between p.log p.high (p.high + count) in
    cond_both (count == 0) _ _ KeepsLimits (λ _. within) (λ _. bounds-pull_events p (p.low + BLOCK_EVENTS * blocks) (p.high + count) (subs_up_to p (p.high + count)) within (length-fold p.subs entries)
    (All-fold Given p.subs entries within.names (All-all_implied Given (λ kind stream grain start position. tt) p.rules p.high events))
    (All-fold Handled p.subs entries within.handled (All-all_implied Handled (λ kind stream grain start position. tt) p.rules p.high events)))

pub bounds-pull : (p : PlainPartition) (generation max_events : ℕ) → IsWithinLimits p → IsWithinLimits (pull p generation max_events).0
unfolding pull pull_want
bounds-pull p generation max_events within =
    cond_both (is_stale p generation) _ _ KeepsLimits (λ _. within)
    (λ _. cond_both (p.high == length p.log) _ _ KeepsLimits (λ _. within)
    (λ _. bounds-pull_count p (drops p (min (pull_size max_events) (length p.log - p.high))) (min (min (pull_size max_events) (length p.log - p.high)) (room p + BLOCK_EVENTS * drops p (min (pull_size max_events) (length p.log - p.high)))) within))

-- an activation costs a rise
rise-fits : (active : Bool) (activation rises limit : ℕ) → activation ≤ rises → rises ≤ limit → (not active && nat_le limit rises) ≡ false
    → ((if active then activation else suc activation) ≤ (if active then rises else suc rises)) × (rises ≤ (if active then rises else suc rises)) × ((if active then rises else suc rises) ≤ limit)
rise-fits true activation rises limit fits bound left = (fits, omega arith, bound)
rise-fits false activation rises limit fits bound left = let room = leb-false limit rises left in (omega arith, omega arith, omega arith)

bounds-delivered : (p : PlainPartition) (s : SubName) (r : Subscription) (st : Grain) (position : ℕ) → IsWithinLimits p → sub_at p s ≡ Some r → GrainFits p.log p.rises st → position < length p.log
    → (not st.active && is_spent p) ≡ false → IsWithinLimits (delivered p s r st position)
bounds-delivered p s r st position within there fits here left =
    let rise = rise-fits st.active st.activation p.rises p.limits.rises fits.0 within.rises left in
    let after = sub-set p s r (record r { cursor = suc position }) within there (handled-in p s r within there) in
    grain-set (with_sub p s (record r { cursor = suc position })) r.grain (woken st s position) (if st.active then p.rises else suc p.rises) p.turns after
    rise.1 rise.2 (omega (arith, within.turns, rise.1))
    (rise.0, All-push (λ (d : Delivery). d.position < length p.log) st.mailbox (record { sub = s; position = position }) fits.1 here, fits.2)

bounds-deliver_position : (p : PlainPartition) (s : SubName) (r : Subscription) (st : Grain) (next : Option ℕ) → IsWithinLimits p → sub_at p s ≡ Some r → GrainFits p.log p.rises st → next_position p r ≡ next → IsWithinLimits (deliver_position p s r st next).0
unfolding deliver_position
bounds-deliver_position p s r st None within there fits is_next = sub-set p s r (caught_up p s r) within there (handled-in p s r within there)
bounds-deliver_position p s r st (Some position) within there fits is_next =
    cond_both (nat_le MAILBOX_PLACES (length st.mailbox)) _ _ KeepsLimits (λ _. within)
    (λ _. cond_both (not st.active && is_spent p) _ _ KeepsLimits (λ _. within)
    (λ left. bounds-delivered p s r st position within there fits (found-in-log (λ event. is_owed r.stream r.start event) p.log r.cursor p.high position is_next) left))

pub bounds-deliver : (p : PlainPartition) (generation : ℕ) (s : SubName) → IsWithinLimits p → IsWithinLimits (deliver p generation s).0
unfolding deliver deliver_to
bounds-deliver p generation s within =
    cond_both (is_stale p generation) _ _ KeepsLimits (λ _. within)
    (λ _. option_both (sub_at p s) (λ found. KeepsLimits (deliver_to p s found)) (λ _. within)
    (λ r there. cond_both (not r.is_open) _ _ KeepsLimits (λ _. within)
    (λ _. bounds-deliver_position p s r (grain_at p r.grain) (next_position p r) within there (grain-fits p r.grain within) refl)))

pub bounds-retry : (p : PlainPartition) (generation : ℕ) (s : SubName) → IsWithinLimits p → IsWithinLimits (retry p generation s).0
unfolding retry retry_of
bounds-retry p generation s within =
    cond_both (is_stale p generation) _ _ KeepsLimits (λ _. within)
    (λ _. option_both (sub_at p s) (λ found. KeepsLimits (retry_of p s found)) (λ _. within)
    (λ r there. cond_both (not r.is_open) _ _ KeepsLimits (λ _. within)
    (λ _. sub-set p s r (rewound r) within there (handled-in p s r within there))))

bounds-ack_position : (p : PlainPartition) (s : SubName) (r : Subscription) (positions : List ℕ) → IsWithinLimits p → sub_at p s ≡ Some r → IsWithinLimits (ack_position p s r positions).0
unfolding ack_position
bounds-ack_position p s r [] within is_r = within
bounds-ack_position p s r (position ∷ positions) within is_r = sub-set p s r (acknowledged r position) within is_r (handled-in p s r within is_r)

pub bounds-ack : (p : PlainPartition) (generation : ℕ) (s : SubName) (token : Token) → IsWithinLimits p → IsWithinLimits (ack p generation s token).0
unfolding ack ack_of
bounds-ack p generation s token within =
    cond_both (is_stale p generation) _ _ KeepsLimits (λ _. within)
    (λ _. option_both (sub_at p s) (λ found. KeepsLimits (ack_of p s token found)) (λ _. within)
    (λ r there. cond_both (not r.is_open) _ _ KeepsLimits (λ _. within) (λ _. bounds-ack_position p s r (handled_at p r token) within there)))

bounds-purge_to : (p : PlainPartition) (low : ℕ) → IsWithinLimits p → IsWithinLimits (purge_to p low).0
unfolding purge_to
bounds-purge_to p low within = assumption

pub bounds-purge : (p : PlainPartition) (generation keep : ℕ) → IsWithinLimits p → IsWithinLimits (purge p generation keep).0
unfolding purge
bounds-purge p generation keep within =
    cond_both (is_stale p generation) _ _ KeepsLimits (λ _. within) (λ _. bounds-purge_to p (p.low + BLOCK_EVENTS * purges p keep) within)

bounds-move_to : (p : PlainPartition) (silo position : ℕ) → IsWithinLimits p → is_spent p ≡ false → IsWithinLimits (move_to p silo position).0
unfolding move_to
bounds-move_to p silo position within left =
    let room = leb-false p.limits.rises p.rises left in
    let after = rewound-set p (λ r. r.is_open) (suc p.rises) within (omega arith) (omega arith) in
    let generation : suc p.generation ≤ suc p.rises = omega (arith, within.generation) in
    assumption

pub bounds-move : (p : PlainPartition) (silo : ℕ) → IsWithinLimits p → IsWithinLimits (move p silo).0
unfolding move
bounds-move p silo within =
    cond_both (is_spent p) _ _ KeepsLimits (λ _. within) (bounds-move_to p silo (least_with p.high (open_resumes p)) within)
