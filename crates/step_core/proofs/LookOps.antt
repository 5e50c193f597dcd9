-- What is asked, by the numbers of grains and of records.
use Rattle.step_core.proofs.Prelude.{PlainActivation, is_unacknowledged, Registration, ◌≡◌, ◌∙◌, ap, sym, subst, refl, ℕ, ◌<◌, Bool, ◌&&◌, not, List, [], ◌∷◌, length, Option, Some, None, pred, nat_lt, arith, length-map, AllByRecursion, if◌then◌else◌, All-at, is_some-map, grain_lt, keys_where, least, next_after, past, GrainId, SubName, Token, AreIn, IsWithinLimits, sub_at, Grain, Subscription, leaves_of, no_entry, no_state, state_at}
use Rattle.stream_model.specs.declared.reply.Reply.TheVariants as reply
use Rattle.stream_model.specs.Looks as plain
use Rattle.grain_table.specs.Grains as grains
use Rattle.partition_queue.specs.Queue.{token_at}
use Rattle.subscription_table.specs.Leaves as leaves
use Rattle.subscription_table.specs.Table as table
use Rattle.step_core.specs.Numbers.{AreDistinct}
use Rattle.step_core.specs.declared.parts.Parts.{Parts}
use Rattle.step_core.specs.PlainOf.{plain_of}
use Rattle.step_core.specs.View.{delivery_of, grain_of, grains_of, sub_of, subs_of, turn_of}
use Rattle.step_core.proofs.LeafOps.{due-is}
use Rattle.step_core.proofs.NamesOps.{record-of-number}
use Rattle.step_core.proofs.Shared.{name-same, taken-alike}
use Rattle.step_core.proofs.ViewLemmas.{record-at, records-length}

-- ---- grains

-- a test of plain grains is one of activations
grains-where : (passes : Grain → Bool) (test : PlainActivation → Bool) (names : List (SubName × Registration)) (gs : List (GrainId × PlainActivation))
    → ((a : PlainActivation) → passes (grain_of names a) ≡ test a) → keys_where passes (grains_of names gs) ≡ keys_where test gs
grains-where passes test names [] same = refl
grains-where passes test names (entry ∷ gs) same =
    taken-alike (λ (e : GrainId × Grain). e.0) (λ (e : GrainId × PlainActivation). e.0) (λ (e : GrainId × Grain). passes e.1) (λ (e : GrainId × PlainActivation). test e.1) (entry.0, grain_of names entry.1) entry (grains_of names gs) gs (same entry.1) refl
    (grains-where passes test names gs same)

is-waiting : (names : List (SubName × Registration)) (a : PlainActivation) → plain.is_waiting (grain_of names a) ≡ grains.is_waiting a
is-waiting names a = ap (λ n. nat_lt 0 n) (length-map a.mailbox (delivery_of names))

is-running : (names : List (SubName × Registration)) (a : PlainActivation) → plain.is_running (grain_of names a) ≡ grains.is_running a
is-running names a = is_some-map (turn_of names) a.running

is-ready : (names : List (SubName × Registration)) (a : PlainActivation) → (plain.is_waiting (grain_of names a) && not (plain.is_running (grain_of names a))) ≡ grains.is_ready a
is-ready names a =
    ap (λ b. b && not (plain.is_running (grain_of names a))) (is-waiting names a)
    ∙ ap (λ b. grains.is_waiting a && not b) (is-running names a)

pub waiting-is : (parts : Parts) → least grain_lt (keys_where plain.is_waiting (plain_of parts).grains) ≡ grains.least_waiting parts.grains
waiting-is parts = ap (least grain_lt) (grains-where plain.is_waiting grains.is_waiting parts.subs.registry.names parts.grains (is-waiting parts.subs.registry.names))

pub running-is : (parts : Parts) → least grain_lt (keys_where plain.is_running (plain_of parts).grains) ≡ grains.least_running parts.grains
running-is parts = ap (least grain_lt) (grains-where plain.is_running grains.is_running parts.subs.registry.names parts.grains (is-running parts.subs.registry.names))

-- the next that is ready
pub ready-is : (parts : Parts) (after : Option GrainId) → plain.ready (plain_of parts) after ≡ plain.ready_reply (grains.ready_after parts.grains after)
unfolding plain.ready
ready-is parts after =
    ap (λ ids. plain.ready_reply (next_after grain_lt after ids))
    (grains-where (λ st. plain.is_waiting st && not (plain.is_running st)) grains.is_ready parts.subs.registry.names parts.grains (is-ready parts.subs.registry.names))

-- ---- records

-- what is handled is of the log
pub handled-within : (parts : Parts) (i : ℕ) → IsWithinLimits (plain_of parts) → length parts.subs.registry.names ≡ length parts.subs.states → i < length parts.subs.registry.names → AllByRecursion (λ position. position < length parts.queue.events) (state_at parts.subs i).handled
handled-within parts i within lengths below =
    let names = parts.subs.registry.names in
    let states = parts.subs.states in
    let d = sub_of no_entry no_state in
    subst (λ (entry : SubName × Subscription). AreIn parts.queue.events entry.1.handled) (record-at names states i d no_entry no_state lengths below)
    (All-at (λ (entry : SubName × Subscription). AreIn parts.queue.events entry.1.handled) (subs_of names states) i d within.handled (omega (arith, below, records-length names states lengths)))

-- the next that is due
pub due-none : (parts : Parts) (after : Option SubName) → leaves.due_after (plain_of parts).high after (leaves_of parts.subs.registry.names parts.subs.states) ≡ None → plain.due (plain_of parts) after ≡ reply.NoneDue
unfolding plain.due
due-none parts after none = ap (plain.due_reply (plain_of parts)) (due-is parts after ∙ none)

pub due-some : (parts : Parts) (after : Option SubName) (i : ℕ) (s : SubName) (ack : Option Token) → AreDistinct parts.subs.registry.names → length parts.subs.registry.names ≡ length parts.subs.states → i < length parts.subs.registry.names
    → leaves.due_after (plain_of parts).high after (leaves_of parts.subs.registry.names parts.subs.states) ≡ Some (table.name_at parts.subs i)
    → s ≡ table.name_at parts.subs i
    → ack ≡ (if is_unacknowledged (state_at parts.subs i) then Some (token_at parts.queue (pred (past (state_at parts.subs i).handled))) else None)
    → reply.DueSub s ack ≡ plain.due (plain_of parts) after
unfolding plain.due
due-some parts after i s ack distinct lengths below is_due is_name is_ack =
    let p = plain_of parts in
    let named = sym (name-same parts.subs i) in
    ap (λ s. reply.DueSub s ack) is_name
    ∙ ap (reply.DueSub (table.name_at parts.subs i)) (is_ack ∙ ap (plain.to_acknowledge p) (sym (record-of-number parts i no_entry no_state distinct lengths below)) ∙ ap (λ s. plain.to_acknowledge p (sub_at p s)) (sym named))
    ∙ ap (plain.due_reply p) (sym (due-is parts after ∙ is_due))
