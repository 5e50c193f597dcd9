-- What subscribers ask, done by the parts.
use Rattle.step_core.proofs.Prelude.{PlainActivation, forgotten, closed, RunningTurn, Delivery, SubState, closed_registration, Registration, ◌≡◌, ◌∙◌, ap, sym, refl, ℕ, ◌<◌, Bool, true, false, not, List, [], ◌∷◌, length, map, filter, get_or, set, Some, ◌==◌, cond_both, AllByRecursion, option_map, if◌then◌else◌, same_grain, same_sub, changed_value, place_of, GrainId, SubName, with_sub, Reply, Grain, PlainPartition}
use Rattle.stream_ident.specs.declared.ident.SubName.TheVariants as name
use Rattle.stream_model.specs.declared.plain.Delivery as plain_delivery
use Rattle.stream_model.specs.declared.plain.RunningTurn as plain_turn
use Rattle.stream_model.specs.declared.reply.Reply.TheVariants as reply
use Rattle.stream_model.specs.Publishing as plain
use Rattle.step_core.specs.Numbers.{AreDistinct, IsBelow}
use Rattle.step_core.specs.declared.parts.Parts.{Parts}
use Rattle.step_core.specs.PlainOf.{plain_of}
use Rattle.step_core.specs.View.{delivery_of, grain_of, grains_of, name_at, sub_of, subs_of}
use Rattle.step_core.proofs.NumberLemmas.{same-number}
use Rattle.step_core.proofs.RecordOps.{record-found, record-set, record_at}

-- ---- a name that is closed says the same of its record

pub closed-records : (s : SubName) (names : List (SubName × Registration)) (states : List SubState) → subs_of (changed_value same_sub s closed_registration names) states ≡ subs_of names states
closed-records s [] states = refl
closed-records s (entry ∷ names) [] = cond_both (same_sub s entry.0) _ _ (λ (now : List (SubName × Registration)). subs_of now [] ≡ []) (λ _. refl) (λ _. refl)
closed-records s (entry ∷ names) (state ∷ states) =
    cond_both (same_sub s entry.0) _ _ (λ (now : List (SubName × Registration)). subs_of now (state ∷ states) ≡ sub_of entry state ∷ subs_of names states) (λ _. refl)
    (λ _. ap (λ subs. sub_of entry state ∷ subs) (closed-records s names states))

closed-names : (s : SubName) (names : List (SubName × Registration)) → map (λ (entry : SubName × Registration). entry.0) (changed_value same_sub s closed_registration names) ≡ map (λ (entry : SubName × Registration). entry.0) names
closed-names s [] = refl
closed-names s (entry ∷ names) =
    cond_both (same_sub s entry.0) _ _ (λ (now : List (SubName × Registration)). map (λ (e : SubName × Registration). e.0) now ≡ map (λ (e : SubName × Registration). e.0) (entry ∷ names)) (λ _. refl)
    (λ _. ap (λ names. entry.0 ∷ names) (closed-names s names))

-- a grain is seen by the names alone
delivery-by : List SubName → Delivery → plain_delivery.Delivery
delivery-by names d = record { sub = get_or names d.sub (name.Explicit 0); position = d.position }

turn-by : List SubName → RunningTurn → plain_turn.RunningTurn
turn-by names run = record { sub = get_or names run.sub (name.Explicit 0); turn = run.turn; positions = run.positions }

grains-by : List SubName → List (GrainId × PlainActivation) → List (GrainId × Grain)
grains-by names grains =
    map (λ (entry : GrainId × PlainActivation). (entry.0, record { activation = entry.1.number; active = entry.1.active; mailbox = map (delivery-by names) entry.1.mailbox; running = option_map (turn-by names) entry.1.running })) grains

pub same-names : (names others : List (SubName × Registration)) (grains : List (GrainId × PlainActivation)) → map (λ (entry : SubName × Registration). entry.0) others ≡ map (λ (entry : SubName × Registration). entry.0) names → grains_of others grains ≡ grains_of names grains
unfolding grains-by delivery-by turn-by
same-names names others grains same = ap (λ (ns : List SubName). grains-by ns grains) same

-- ---- the deliveries of a record leave the mailbox

other-deliveries : (names : List (SubName × Registration)) (sub : ℕ) (deliveries : List Delivery) → AreDistinct names → sub < length names → AllByRecursion (λ (d : Delivery). d.sub < length names) deliveries → map (delivery_of names) (filter (λ (d : Delivery). not (sub == d.sub)) deliveries) ≡ filter (λ d. not (same_sub (name_at names sub) d.sub)) (map (delivery_of names) deliveries)
other-deliveries names sub [] distinct within all = refl
other-deliveries names sub (d ∷ deliveries) distinct within all =
    rw (same-number names sub d.sub distinct within all.0) (by (sub == d.sub) (other-deliveries names sub deliveries distinct within all.1))
  where
    Rest : Type 0
    Rest = map (delivery_of names) (filter (λ (e : Delivery). not (sub == e.sub)) deliveries) ≡ filter (λ e. not (same_sub (name_at names sub) e.sub)) (map (delivery_of names) deliveries)

    by : (b : Bool) → Rest
        → map (delivery_of names) (if not b then d ∷ filter (λ (e : Delivery). not (sub == e.sub)) deliveries else filter (λ (e : Delivery). not (sub == e.sub)) deliveries)
        ≡ (if not b then delivery_of names d ∷ filter (λ e. not (same_sub (name_at names sub) e.sub)) (map (delivery_of names) deliveries) else filter (λ e. not (same_sub (name_at names sub) e.sub)) (map (delivery_of names) deliveries))
    by true rest = rest
    by false rest = ap (λ ds. delivery_of names d ∷ ds) rest

pub forgotten-is : (names : List (SubName × Registration)) (sub : ℕ) (a : PlainActivation) → AreDistinct names → sub < length names → IsBelow (length names) a → grain_of names (forgotten sub a) ≡ plain.without (name_at names sub) (grain_of names a)
forgotten-is names sub a distinct within below =
    ap (λ ds. record (grain_of names a) { mailbox = ds }) (other-deliveries names sub a.mailbox distinct within below.waiting)

-- ---- unsubscribing

abbrev pub with_closed : Parts → SubName → List SubState → List (GrainId × PlainActivation) → Parts
with_closed parts s states grains =
    record parts { subs = record { registry = record parts.subs.registry { names = changed_value same_sub s closed_registration parts.subs.registry.names }; states = states }; grains = grains }

closed-is : (parts : Parts) (s : SubName) (states : List SubState) (grains : List (GrainId × PlainActivation)) → plain_of (record parts { subs = record parts.subs { states = states }; grains = grains }) ≡ plain_of (with_closed parts s states grains)
closed-is parts s states grains =
    ap (λ subs. record (plain_of (record parts { subs = record parts.subs { states = states }; grains = grains })) { subs = subs }) (sym (closed-records s parts.subs.registry.names states))
    ∙ ap (λ gs. record (plain_of (record parts { subs = record parts.subs { states = states }; grains = grains })) { subs = subs_of (changed_value same_sub s closed_registration parts.subs.registry.names) states; grains = gs }) (sym (same-names parts.subs.registry.names (changed_value same_sub s closed_registration parts.subs.registry.names) grains (closed-names s parts.subs.registry.names)))

pub unsubscribe-parts : (parts : Parts) (number sub : ℕ) (d : SubName × Registration) (e : SubState) (grains : List (GrainId × PlainActivation))
    → length parts.subs.registry.names ≡ length parts.subs.states → place_of same_sub (name.Explicit number) parts.subs.registry.names ≡ Some sub
    → changed_value same_grain (record_at parts sub d e).grain (plain.without (name.Explicit number)) (grains_of parts.subs.registry.names parts.grains) ≡ grains_of parts.subs.registry.names grains
    → plain.unsubscribe (plain_of parts) (name.Explicit number)
    ≡ (if not (get_or parts.subs.states sub e).live then (plain_of parts, reply.Closed)
    else (plain_of (with_closed parts (name.Explicit number) (set parts.subs.states sub (closed (get_or parts.subs.states sub e))) grains), reply.Unsubscribed (length (get_or parts.subs.states sub e).handled)))
unfolding plain.unsubscribe plain.unsubscribe_from
unsubscribe-parts parts number sub d e grains lengths found forgets =
    rw (record-found parts (name.Explicit number) sub d e lengths found) (ap answer closes)
  where
    s : SubName
    s = name.Explicit number

    old : SubState
    old = get_or parts.subs.states sub e

    closes : plain.unsubscribed (plain_of parts) s (record_at parts sub d e) ≡ plain_of (with_closed parts s (set parts.subs.states sub (closed old)) grains)
    closes =
        ap (λ gs. record (with_sub (plain_of parts) s (record (record_at parts sub d e) { is_open = false })) { grains = gs }) forgets
        ∙ ap (λ (p : PlainPartition). record p { grains = grains_of parts.subs.registry.names grains }) (record-set parts s sub d e (closed old) (λ r. record r { is_open = false }) lengths found refl)
        ∙ closed-is parts s (set parts.subs.states sub (closed old)) grains

    answer : PlainPartition → PlainPartition × Reply
    answer left = if not old.live then (plain_of parts, reply.Closed) else (left, reply.Unsubscribed (length old.handled))
