-- A worker begins a turn, done by the parts: what becomes of them, and the reply.
use Rattle.step_core.proofs.Prelude.{PlainActivation, can_begin, front_of, Delivery, Begun, activation_at, no_grain, PlainGrains, number_of, ◌≡◌, ◌∙◌, ap, sym, subst, refl, ℕ, zero, suc, ◌<◌, Bool, true, false, ◌&&◌, List, [], ◌∷◌, length, Some, ◌==◌, nat_le, cond_both, AllByRecursion, if◌then◌else◌, All-drop, turn_size, change_at, past, GrainId, grain-fits, IsWithinLimits, events_at, token_at, Reply, PlainPartition, state_at}
use Rattle.stream_model.specs.declared.reply.Reply.TheVariants as reply
use Rattle.stream_model.specs.Turns as plain
use Rattle.consumer_grain.specs.declared.told.Begun.TheVariants as begun
use Rattle.consumer_grain.specs.Activations.{begin}
use Rattle.step_core.specs.Assembly.{IsAssembled}
use Rattle.step_core.specs.Known.{AreKnown}
use Rattle.step_core.specs.Numbers.{IsBelow}
use Rattle.step_core.specs.declared.parts.Parts.{Parts}
use Rattle.step_core.specs.PlainOf.{plain_of}
use Rattle.step_core.specs.TurnReplies.{after_begun, of_begun, IsOfParts}
use Rattle.step_core.specs.View.{delivery_of}
use Rattle.step_core.proofs.GrainOps.{grain-found}
use Rattle.step_core.proofs.KnownOps.{known-grain}
use Rattle.step_core.proofs.KnownTurns.{begin-any, begin-holds, begin-subs}
use Rattle.step_core.proofs.NumberedOps.{HasGrain, All-change_at, All-unmap, change_at-by, change_at-kept, grain-below, grains-known, turns-known}
use Rattle.step_core.proofs.Shared.{name-same}
use Rattle.step_core.proofs.TurnOps.{IsPast, begin-parts, begun_by}

-- where no turn has begun and nothing is dropped, the activation stays
abbrev Keeps : PlainActivation → PlainActivation × Begun → Type 0
Keeps a (now, begun.Busy) = now ≡ a
Keeps a (now, begun.Empty) = now ≡ a
Keeps a (now, begun.Dropped d) = Unit {0}
Keeps a (now, begun.Turn sub positions) = Unit {0}

begin-keeps : (a : PlainActivation) (past : ℕ) (turn : ℕ) (max_events : ℕ) → Keeps a (begin a past turn max_events)
begin-keeps a past turn max_events = begin-any (Keeps a) a past turn max_events refl refl (λ d ds is. tt) (λ d ds is. tt)

-- the parts with these grains
abbrev pub with_grains : Parts → PlainGrains → Parts
with_grains parts grains = record parts { grains = grains }

grains-kept : (parts : Parts) (i : ℕ) (now : PlainActivation) → now ≡ activation_at parts.grains i → parts.grains ≡ change_at (λ _. now) i parts.grains
grains-kept parts i now same = sym (ap (λ a. change_at (λ _. a) i parts.grains) same ∙ change_at-kept i parts.grains no_grain)

begun-told : (parts : Parts) (i : ℕ) (stepped : PlainActivation × Begun) → Keeps (activation_at parts.grains i) stepped
    → begun_by parts i stepped
    ≡ (plain_of (after_begun (with_grains parts (change_at (λ _. stepped.0) i parts.grains)) stepped.1), of_begun parts (activation_at parts.grains i).number stepped.1)
begun-told parts i (now, begun.Busy) kept = ap (λ grains. (plain_of (with_grains parts grains), reply.Busy)) (grains-kept parts i now kept)
begun-told parts i (now, begun.Empty) kept = ap (λ grains. (plain_of (with_grains parts grains), reply.Empty)) (grains-kept parts i now kept)
begun-told parts i (now, begun.Dropped d) kept =
    ap (λ s. (plain_of (with_grains parts (change_at (λ _. now) i parts.grains)), reply.Dropped s (token_at (plain_of parts) d.position))) (name-same parts.subs d.sub)
begun-told parts i (now, begun.Turn sub positions) kept =
    ap (λ s. (plain_of (after_begun (with_grains parts (change_at (λ _. now) i parts.grains)) (begun.Turn sub positions)), reply.Turn s (activation_at parts.grains i).number (suc parts.turns) (events_at parts.queue.events positions) (state_at parts.subs sub).note))
    (name-same parts.subs sub)

-- the parts with these grains, where these parts reply
abbrev pub out_of : Parts → Parts → ℕ → Begun → PlainPartition × Reply
out_of parts replying activation told = (plain_of (after_begun parts told), of_begun replying activation told)

reply-alone : (parts : Parts) (grains : PlainGrains) (activation : ℕ) (told : Begun) → out_of (with_grains parts grains) parts activation told ≡ out_of (with_grains parts grains) (with_grains parts grains) activation told
reply-alone parts grains activation (begun.Turn sub positions) = refl
reply-alone parts grains activation _ = refl

-- what the table of the grains does and tells, and the reply to it, is what the plain partition does
pub begin-told : (parts : Parts) (g : GrainId) (i max_events past_front turn : ℕ) (grains : PlainGrains) (told : Begun)
    → HasGrain parts g i → IsPast parts i past_front
    → turn ≡ suc parts.turns
    → (can_begin (activation_at parts.grains i) past_front && nat_le parts.limits.rises parts.rises) ≡ false
    → grains ≡ change_at (λ a. (begin a past_front turn max_events).0) i parts.grains
    → told ≡ (begin (activation_at parts.grains i) past_front turn max_events).1
    → plain.begin (plain_of parts) g max_events ≡ out_of (with_grains parts grains) (with_grains parts grains) (activation_at parts.grains i).number told
begin-told parts g i max_events past_front turn grains told has is_past is_turn rests is_grains is_told =
    let a = activation_at parts.grains i in
    begin-parts parts g i max_events past_front has is_past
    ∙ ap (λ (spent : Bool). if spent then (plain_of parts, reply.Spent) else begun_by parts i (begin a past_front (suc parts.turns) max_events)) rests
    ∙ ap (λ turn. begun_by parts i (begin a past_front turn max_events)) (sym is_turn)
    ∙ begun-told parts i (begin a past_front turn max_events) (begin-keeps a past_front turn max_events)
    ∙ ap (λ grains. out_of (with_grains parts grains) parts a.number (begin a past_front turn max_events).1)
    (sym (is_grains ∙ change_at-by (λ a. (begin a past_front turn max_events).0) i parts.grains no_grain))
    ∙ ap (out_of (with_grains parts grains) parts a.number) (sym is_told)
    ∙ reply-alone parts grains a.number told

-- it would begin a turn, and no rise is left
pub begin-spent : (parts : Parts) (g : GrainId) (i max_events past_front : ℕ)
    → HasGrain parts g i → IsPast parts i past_front
    → (can_begin (activation_at parts.grains i) past_front && nat_le parts.limits.rises parts.rises) ≡ true
    → plain.begin (plain_of parts) g max_events ≡ (plain_of parts, reply.Spent)
begin-spent parts g i max_events past_front has is_past wants =
    begin-parts parts g i max_events past_front has is_past
    ∙ ap (λ (spent : Bool). if spent then (plain_of parts, reply.Spent) else begun_by parts i (begin (activation_at parts.grains i) past_front (suc parts.turns) max_events)) wants

-- ---- numbers and positions

-- a fact of what a grain has begun with
abbrev Tells : (Begun → Type 0) → PlainActivation × Begun → Type 0
Tells P (now, told) = P told

front-within : (m n sub from : ℕ) (deliveries : List Delivery) → AllByRecursion (λ (d : Delivery). d.position < m) deliveries → AllByRecursion (λ position. position < m) (front_of n sub from deliveries)
front-within m zero sub from deliveries all = tt
front-within m (suc n) sub from [] all = tt
front-within m (suc n) sub from (d ∷ deliveries) all =
    cond_both ((sub == d.sub) && nat_le from d.position) _ _ (AllByRecursion (λ position. position < m)) (λ _. (all.0, front-within m n sub (suc d.position) deliveries all.1)) (λ _. tt)

told-begin : (parts : Parts) (past : ℕ) (turn : ℕ) (max_events : ℕ) (a : PlainActivation) → IsBelow (length parts.subs.registry.names) a → AllByRecursion (λ (d : Delivery). d.position < length parts.queue.events) a.mailbox → Tells (IsOfParts parts) (begin a past turn max_events)
told-begin parts past turn max_events a below positions =
    begin-any (Tells (IsOfParts parts)) a past turn max_events tt tt
    (λ d ds is. (sub d ds is, (subst (AllByRecursion (λ (d : Delivery). d.position < length parts.queue.events)) is positions).0))
    (λ d ds is. (sub d ds is, front-within (length parts.queue.events) (turn_size max_events) d.sub d.position a.mailbox positions))
  where
    sub : (d : Delivery) (ds : List Delivery) → a.mailbox ≡ d ∷ ds → d.sub < length parts.subs.registry.names
    sub d ds is = (subst (AllByRecursion (λ (d : Delivery). d.sub < length parts.subs.registry.names)) is below.waiting).0

-- the positions that wait for a grain are of the log
waiting-within : (parts : Parts) (g : GrainId) (i : ℕ) → IsWithinLimits (plain_of parts) → number_of parts.grains g ≡ Some i → AllByRecursion (λ (d : Delivery). d.position < length parts.queue.events) (activation_at parts.grains i).mailbox
waiting-within parts g i within found =
    let fits = grain-fits (plain_of parts) g within in
    All-unmap (λ d. d.position < length parts.queue.events) (delivery_of parts.subs.registry.names) (activation_at parts.grains i).mailbox
    (subst (λ st. AllByRecursion (λ d. d.position < length parts.queue.events) st.mailbox) (grain-found parts g i no_grain found) fits.1)

pub begin-within : (parts : Parts) (g : GrainId) (i past max_events : ℕ) (turn : ℕ) (grains : PlainGrains) (told : Begun) → HasGrain parts g i → told ≡ (begin (activation_at parts.grains i) past turn max_events).1 → IsOfParts (with_grains parts grains) told
begin-within parts g i past max_events turn grains told has is_told =
    subst (IsOfParts (with_grains parts grains)) (sym is_told)
    (told-begin (with_grains parts grains) past turn max_events (activation_at parts.grains i) (grain-below has) (waiting-within parts g i has.agrees.within has.found))

-- a grain that has begun knows no other numbers
abbrev Leaves : ℕ → PlainActivation × Begun → Type 0
Leaves n (now, told) = IsBelow n now

begin-below : (n past : ℕ) (turn : ℕ) (max_events : ℕ) (a : PlainActivation) → IsBelow n a → IsBelow n (begin a past turn max_events).0
begin-below n past turn max_events a below =
    begin-any (Leaves n) a past turn max_events below below (λ d ds is. record { waiting = (waiting d ds is).1; running = below.running; subs = below.subs }) (λ d ds is. record {
      waiting = All-drop (λ (d : Delivery). d.sub < n) (length (front_of (turn_size max_events) d.sub d.position a.mailbox)) a.mailbox below.waiting;
      running = (waiting d ds is).0;
      subs = below.subs;
    })
  where
    waiting : (d : Delivery) (ds : List Delivery) → a.mailbox ≡ d ∷ ds → (d.sub < n) × AllByRecursion (λ (d : Delivery). d.sub < n) ds
    waiting d ds is = subst (AllByRecursion (λ (d : Delivery). d.sub < n)) is below.waiting

-- the parts stay assembled
after-assembled : (parts : Parts) (told : Begun) → IsAssembled parts → IsAssembled (after_begun parts told)
after-assembled parts (begun.Turn sub positions) assembled = turns-known parts (suc parts.rises) (suc parts.turns) assembled
after-assembled parts _ assembled = assembled

pub begin-assembled : (parts : Parts) (i past max_events : ℕ) (turn : ℕ) (grains : PlainGrains) (told : Begun) → IsAssembled parts → i < length parts.grains → grains ≡ change_at (λ a. (begin a past turn max_events).0) i parts.grains → IsAssembled (after_begun (with_grains parts grains) told)
begin-assembled parts i past max_events turn grains told assembled within is_grains =
    let names = parts.subs.registry.names in
    after-assembled (with_grains parts grains) told
    (grains-known parts grains assembled
    (subst (λ (grains : PlainGrains). AllByRecursion (λ entry. IsBelow (length names) entry.1) grains) (sym is_grains)
    (All-change_at (IsBelow (length names)) (λ a. (begin a past turn max_events).0) i parts.grains (begin-below (length names) past turn max_events) assembled.numbered))
    (subst (AreKnown names parts.subs.states) (sym is_grains)
    (known-grain names parts.subs.states parts.grains i (λ a. (begin a past turn max_events).0) assembled.known within
    (begin-subs (activation_at parts.grains i) past turn max_events) (λ n none. begin-holds n (activation_at parts.grains i) past turn max_events none))))
