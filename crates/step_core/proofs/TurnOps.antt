-- What workers ask, done by the parts.
use Rattle.step_core.proofs.Prelude.{PlainActivation, can_begin, front_of, is_front_new, started, Delivery, SubState, Begun, activation_at, no_grain, ◌≡◌, ◌∙◌, ap, sym, subst, refl, ℕ, suc, ◌<◌, Bool, true, false, ◌&&◌, not, List, [], ◌∷◌, length, drop, map, Some, None, nat_lt, nat_le, drop-map, same_Some, AllByRecursion, if◌then◌else◌, is_some, is_some-map, turn_size, same_grain, change_at, past, place_of, GrainId, events_at, token_at, Reply, Grain, PlainPartition, no_entry, no_state, state_at}
use Rattle.std.specs.List.{slice_get}
use Rattle.stream_model.specs.declared.reply.Reply.TheVariants as reply
use Rattle.stream_model.specs.Turns as plain
use Rattle.consumer_grain.specs.declared.told.Begun.TheVariants as begun
use Rattle.consumer_grain.specs.Activations.{begin, begin_front, begin_turn}
use Rattle.step_core.specs.Numbers.{AreDistinct}
use Rattle.step_core.specs.declared.parts.Parts.{Parts}
use Rattle.step_core.specs.PlainOf.{plain_of}
use Rattle.step_core.specs.View.{delivery_of, grain_of, name_at, turn_of}
use Rattle.step_core.proofs.GrainOps.{grain-found, grain-new, grain-set}
use Rattle.step_core.proofs.NamesOps.{record-of-number}
use Rattle.step_core.proofs.NumberedOps.{HasGrain, grain-below}
use Rattle.step_core.proofs.Shared.{distinct-of-unique}
use Rattle.step_core.proofs.NumberLemmas.{front-of-names}

abbrev pub with_activation : Parts → ℕ → PlainActivation → Parts
with_activation parts i a = record parts { grains = change_at (λ _. a) i parts.grains }

-- what a partition leaves and replies where a grain has begun so
abbrev pub begun_by : Parts → ℕ → PlainActivation × Begun → PlainPartition × Reply
begun_by parts i (a, begun.Busy) = (plain_of parts, reply.Busy)
begun_by parts i (a, begun.Empty) = (plain_of parts, reply.Empty)
begun_by parts i (a, begun.Dropped delivery) =
    (plain_of (with_activation parts i a), reply.Dropped (name_at parts.subs.registry.names delivery.sub) (token_at (plain_of parts) delivery.position))
begun_by parts i (a, begun.Turn sub positions) = (
  plain_of (record (with_activation parts i a) { rises = suc parts.rises; turns = suc parts.turns }),
  reply.Turn (name_at parts.subs.registry.names sub) (activation_at parts.grains i).number (suc parts.turns) (events_at parts.queue.events positions) (state_at parts.subs sub).note,
)

-- no turn is begun where it would need a rise and none is left
abbrev pub if_rise : Parts → Bool → PlainPartition × Reply → PlainPartition × Reply
if_rise parts begins told = if begins && nat_le parts.limits.rises parts.rises then (plain_of parts, reply.Spent) else told

-- the positions end so that the subscription of the front delivery has handled
abbrev pub IsPast : Parts → ℕ → ℕ → Type 0
IsPast parts i past_front = (f : Delivery) (fs : List Delivery) → (activation_at parts.grains i).mailbox ≡ f ∷ fs → past_front ≡ past (state_at parts.subs f.sub).handled

begin-front-parts : (parts : Parts) (g : GrainId) (i size : ℕ) (deliveries : List Delivery) → HasGrain parts g i → AllByRecursion (λ (d : Delivery). d.sub < length parts.subs.registry.names) deliveries → (activation_at parts.grains i).mailbox ≡ deliveries
    → (past_front : ℕ) → ((f : Delivery) (fs : List Delivery) → deliveries ≡ f ∷ fs → past_front ≡ past (state_at parts.subs f.sub).handled)
    → plain.begin_front (plain_of parts) g size (grain_of parts.subs.registry.names (activation_at parts.grains i)) (map (delivery_of parts.subs.registry.names) deliveries)
    ≡ if_rise parts (is_front_new past_front deliveries) (begun_by parts i (begin_front (activation_at parts.grains i) past_front (suc parts.turns) size deliveries))
unfolding plain.begin_front plain.begin_for plain.begin_turn
begin-front-parts parts g i size [] has below mailbox past_front is_past = refl
begin-front-parts parts g i size (f ∷ fs) has below mailbox past_front is_past =
    rw (record-of-number parts f.sub no_entry no_state distinct (sym has.agrees.records.long) below.0, is_past f fs refl)
    (by (nat_lt f.position (past (state_at parts.subs f.sub).handled)) (nat_le parts.limits.rises parts.rises))
  where
    a : PlainActivation
    a = activation_at parts.grains i

    distinct : AreDistinct parts.subs.registry.names
    distinct = distinct-of-unique parts.subs.registry.names has.agrees.unique

    st : Grain
    st = grain_of parts.subs.registry.names a

    positions : List ℕ
    positions = front_of size f.sub f.position a.mailbox

    front : plain.front_of size (name_at parts.subs.registry.names f.sub) f.position st.mailbox ≡ positions
    front = front-of-names parts.subs.registry.names size f.sub f.position a.mailbox distinct below.0 (subst (AllByRecursion (λ (d : Delivery). d.sub < length parts.subs.registry.names)) (sym mailbox) below)

    dropped : PlainActivation
    dropped = record a { mailbox = fs }

    begins : PlainActivation
    begins = started a f.sub (suc parts.turns) positions

    by : (handled spent : Bool)
        → (if handled then (plain.dropped (plain_of parts) g st (map (delivery_of parts.subs.registry.names) fs), reply.Dropped (name_at parts.subs.registry.names f.sub) (token_at (plain_of parts) f.position))
        else if spent then (plain_of parts, reply.Spent)
        else plain.begin_turn (plain_of parts) g st (name_at parts.subs.registry.names f.sub) (state_at parts.subs f.sub).note (plain.front_of size (name_at parts.subs.registry.names f.sub) f.position st.mailbox))
        ≡ (if not handled && spent then (plain_of parts, reply.Spent) else begun_by parts i (if handled then (dropped, begun.Dropped f) else begin_turn a f.sub positions (suc parts.turns)))
    by true spent = ap (λ p. (p, reply.Dropped (name_at parts.subs.registry.names f.sub) (token_at (plain_of parts) f.position)))
        (grain-set parts g i no_grain (λ _. dropped) (λ st. record st { mailbox = map (delivery_of parts.subs.registry.names) fs }) has.found refl)
    by false true = refl
    by false false =
        ap (plain.begin_turn (plain_of parts) g st (name_at parts.subs.registry.names f.sub) (state_at parts.subs f.sub).note) front
        ∙ ap (λ p. (record p { rises = suc parts.rises; turns = suc parts.turns }, reply.Turn (name_at parts.subs.registry.names f.sub) a.number (suc parts.turns) (events_at parts.queue.events positions) (state_at parts.subs f.sub).note))
        (grain-set parts g i no_grain (λ _. begins) (λ st. record st { mailbox = drop (length positions) st.mailbox; running = Some (record { sub = name_at parts.subs.registry.names f.sub; turn = suc parts.turns; positions = positions }) }) has.found
        (ap (λ ds. record st { mailbox = ds; running = Some (record { sub = name_at parts.subs.registry.names f.sub; turn = suc parts.turns; positions = positions }) }) (sym (drop-map (delivery_of parts.subs.registry.names) (length positions) a.mailbox))))

pub begin-parts : (parts : Parts) (g : GrainId) (i max_events past_front : ℕ) → HasGrain parts g i → IsPast parts i past_front
    → plain.begin (plain_of parts) g max_events ≡ if_rise parts (can_begin (activation_at parts.grains i) past_front) (begun_by parts i (begin (activation_at parts.grains i) past_front (suc parts.turns) max_events))
unfolding plain.begin plain.begin_in
begin-parts parts g i max_events past_front has is_past =
    rw (grain-found parts g i no_grain has.found, is_some-map (turn_of parts.subs.registry.names) (activation_at parts.grains i).running)
    (by (is_some (activation_at parts.grains i).running) (activation_at parts.grains i).active)
  where
    a : PlainActivation
    a = activation_at parts.grains i

    by : (busy active : Bool)
        → (if busy then (plain_of parts, reply.Busy) else if not active then (plain_of parts, reply.Empty) else plain.begin_front (plain_of parts) g (turn_size max_events) (grain_of parts.subs.registry.names a) (grain_of parts.subs.registry.names a).mailbox)
        ≡ if_rise parts (not busy && (active && is_front_new past_front a.mailbox)) (begun_by parts i (if busy then (a, begun.Busy) else if not active then (a, begun.Empty) else begin_front a past_front (suc parts.turns) (turn_size max_events) a.mailbox))
    by true active = refl
    by false false = refl
    by false true = begin-front-parts parts g i (turn_size max_events) a.mailbox has (grain-below has).waiting refl past_front is_past

-- nothing waits for the grain
pub begin-idle : (parts : Parts) (g : GrainId) (i max_events : ℕ) (busy : Bool) → place_of same_grain g parts.grains ≡ Some i → slice_get (activation_at parts.grains i).mailbox 0 ≡ None
    → is_some (activation_at parts.grains i).running ≡ busy
    → plain.begin (plain_of parts) g max_events ≡ (plain_of parts, if busy then reply.Busy else reply.Empty)
unfolding plain.begin plain.begin_in plain.begin_front
begin-idle parts g i max_events busy found none is_busy =
    rw (grain-found parts g i no_grain found, is_some-map (turn_of parts.subs.registry.names) (activation_at parts.grains i).running, empty (activation_at parts.grains i).mailbox none, is_busy)
    (by busy (activation_at parts.grains i).active)
  where
    empty : (ds : List Delivery) → slice_get ds 0 ≡ None → ds ≡ []
    empty [] none = refl
    empty (d ∷ ds) none = absurd (cc)

    by : (busy active : Bool) → ◌≡◌ {A = PlainPartition × Reply} (if busy then (plain_of parts, reply.Busy) else if not active then (plain_of parts, reply.Empty) else (plain_of parts, reply.Empty)) (plain_of parts, if busy then reply.Busy else reply.Empty)
    by false true = refl
    by _ _ = refl

-- the front delivery is of a number that is given
pub front-numbered : (n : ℕ) (mailbox : List Delivery) (front : Delivery) → slice_get mailbox 0 ≡ Some front → AllByRecursion (λ (d : Delivery). d.sub < n) mailbox → front.sub < n
front-numbered n [] front is all = absurd (cc)
front-numbered n (d ∷ ds) front is all = subst (λ (d : Delivery). d.sub < n) (same_Some d front is) all.0

-- and there is no other front
pub front-past : (parts : Parts) (i : ℕ) (front : Delivery) (state : SubState) → slice_get (activation_at parts.grains i).mailbox 0 ≡ Some front → state ≡ state_at parts.subs front.sub → IsPast parts i (past state.handled)
front-past parts i front state is_front is_state f fs are =
    ap (λ (s : SubState). past s.handled) is_state
    ∙ ap (λ (d : Delivery). past (state_at parts.subs d.sub).handled) (same_Some front f (sym is_front ∙ ap (λ (ds : List Delivery). slice_get ds 0) are))

-- a grain that was never active
pub begin-none : (parts : Parts) (g : GrainId) (max_events : ℕ) → place_of same_grain g parts.grains ≡ None → plain.begin (plain_of parts) g max_events ≡ (plain_of parts, reply.Empty)
unfolding plain.begin plain.begin_in
begin-none parts g max_events none = rw (grain-new parts g none) refl
