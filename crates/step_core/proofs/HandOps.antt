-- What is known where an agent hands an event over, and what the calls of the parts make of it.
use Rattle.step_core.proofs.Prelude.{next_in, PlainActivation, holds, runs, new_activation, next_activation, offered, offer_takes_memory, with_number, woken, advanced, caught_up, RunningTurn, Delivery, SubState, OffersAt, activation_at, no_grain, PlainGrains, number_of, AreIdle, done-current, if_current, next_at, next_event, StaleAgent, PlainCache, high, ◌≡◌, ◌∙◌, ap, ap₂, sym, subst, refl, ℕ, suc, ◌+◌, ◌^◌, ◌<◌, ◌≤◌, max, Bool, true, false, ◌&&◌, ◌||◌, not, List, [], ◌∷◌, length, set, Option, Some, None, ◌==◌, nat_le, nat_lt, arith, and_from, and_parts, eqb-true, le-ltb, not-true, set-get_or, length-map, list_any, AllByRecursion, option_map, if◌then◌else◌, Result, OnErr, AllocError, All-append, place_of-key, same_grain-refl, All-at, same_grain, same_sub, change_at, past, place_of, Performs, GrainId, StreamId, SubName, MAILBOX_PLACES, on-error, place_of-within, is_untouched, is_outstanding, is_spent, next_position, running_in, sub_at, token_at, waiting_in, Reply, takes_memory, Grain, PlainPartition, Subscription, PlainTable, no_entry, no_state, registration_at, state_at, stepped, with_state, cond_both, Ok}
use Rattle.std.proofs.Common.{eq-eqb}
use Rattle.std.proofs.Math.Bool.{or-false}
use Rattle.stream_model.specs.declared.reply.Reply.TheVariants as reply
use Rattle.stream_model.specs.Positions.{is_unacknowledged}
use Rattle.stream_model.specs.Pulling as plain
use Rattle.consumer_grain.specs.declared.told.Offered.{Offered}
use Rattle.consumer_grain.specs.declared.told.Offered.TheVariants as offer
use Rattle.consumer_grain.specs.Activations.{is_in}
use Rattle.grain_table.specs.Changes.{grain_at}
use Rattle.grain_table.specs.Grains.{with_grain}
use Rattle.subscription_table.specs.Table as table
use Rattle.pulling_agent.specs.declared.told.Sought.{Sought}
use Rattle.pulling_agent.specs.declared.told.Sought.TheVariants as sought
use Rattle.step_core.specs.Assembly.{Agrees, IsAssembled}
use Rattle.step_core.specs.Handing.{IsNext, sent}
use Rattle.step_core.specs.Known.{AreKnown, IsUnheld, IsUnknown}
use Rattle.step_core.specs.declared.parts.Parts.{Parts}
use Rattle.step_core.specs.Numbers.{AreDistinct, IsBelow}
use Rattle.step_core.specs.PlainOf.{plain_of}
use Rattle.step_core.specs.Records.{record_of}
use Rattle.step_core.specs.Serving.{is_held}
use Rattle.step_core.specs.View.{delivery_of, grains_of, name_at, turn_of}
use Rattle.step_core.proofs.AssembledTable.{assembled-subs}
use Rattle.step_core.proofs.DeliverOps.{GoesTo, deliver-closed, deliver-next, deliver-nothing, goes-to-first, goes-to-known, next-is}
use Rattle.step_core.proofs.GrainOps.{AreSome, grain-found, grain-new, outstanding-is}
use Rattle.step_core.proofs.KnownOps.{becomes-added, becomes-changed, known-state, known-woken}
use Rattle.step_core.proofs.NamesOps.{number-of-name, record-of-number, name-of-place}
use Rattle.step_core.proofs.NumberedOps.{All-change_at, change_at-by, change_at-kept, known-at}
use Rattle.step_core.proofs.RecordOps.{record-found}
use Rattle.step_core.proofs.Shared.{distinct-of-unique, history-of, name-same, high-end}

-- ---- what is known of the parts

-- the cache ends within the log, which has a million events at most
pub high-few : (parts : Parts) → Agrees parts → high parts.agent.cache ≤ 1000000
high-few parts agrees =
    omega (arith, (history-of (plain_of parts) agrees.reached).fits.log.high_end, agrees.within.events, agrees.within.limits.events)

-- the number of a record
pub record Stands (parts : Parts) (number : ℕ) : Type 0 where
  pub agrees : Agrees parts
  pub within : number < length parts.subs.registry.names

distinct : (parts : Parts) (number : ℕ) → Stands parts number → AreDistinct parts.subs.registry.names
distinct parts number stands = distinct-of-unique parts.subs.registry.names stands.agrees.unique

-- the number stands for the name
pub named : (parts : Parts) (number : ℕ) → Stands parts number → place_of same_sub (table.name_at parts.subs number) parts.subs.registry.names ≡ Some number
named parts number stands =
    subst (λ s. place_of same_sub s parts.subs.registry.names ≡ Some number) (name-same parts.subs number)
    (number-of-name parts.subs.registry.names number (distinct parts number stands) stands.within)

-- an open subscription's cursor isn't behind the cache
pub cursor-low : (parts : Parts) (number : ℕ) → Stands parts number → (state_at parts.subs number).live ≡ true → parts.agent.cache.low ≤ (state_at parts.subs number).cursor
cursor-low parts number stands is_open =
    let found = record-of-number parts number no_entry no_state (distinct parts number stands) (sym stands.agrees.records.long) stands.within in
    let fits = (history-of (plain_of parts) stands.agrees.reached).fits.subs (name_at parts.subs.registry.names number) (record_of parts number) found in
    let served = fits.served is_open in
    omega (arith, served.low_resume, served.resume_cursor)

-- ---- what is on its way to a grain

some-at : (parts : Parts) (g : GrainId) (j : ℕ) → Agrees parts → place_of same_grain g parts.grains ≡ Some j → AreSome (activation_at parts.grains j).running
some-at parts g j agrees found = by (activation_at parts.grains j).running refl
  where
    by : (running : Option RunningTurn) → (activation_at parts.grains j).running ≡ running → AreSome running
    by None is = tt
    by (Some run) is =
        let fits = (history-of (plain_of parts) agrees.reached).fits.grains.each g in
        let runs = fits.running (turn_of parts.subs.registry.names run) (ap (λ (st : Grain). st.running) (grain-found parts g j no_grain found) ∙ ap (λ o. option_map (turn_of parts.subs.registry.names) o) is) in
        omega (arith, runs.some)

-- nothing waits for a grain that isn't active
pub idle-empty : (parts : Parts) (g : GrainId) (j : ℕ) → Agrees parts → place_of same_grain g parts.grains ≡ Some j → (activation_at parts.grains j).active ≡ false → length (activation_at parts.grains j).mailbox ≡ 0
idle-empty parts g j agrees found idle =
    let fits = (history-of (plain_of parts) agrees.reached).fits.grains.each g in
    let is = grain-found parts g j no_grain found in
    let none = fits.idle (ap (λ (st : Grain). st.active) is ∙ idle) in
    sym (length-map (activation_at parts.grains j).mailbox (delivery_of parts.subs.registry.names))
    ∙ ap length (sym (ap (λ (st : Grain). st.mailbox) is) ∙ none.0)

-- what the grain holds is what waits or runs
pub held-there : (parts : Parts) (number j : ℕ) → Stands parts number → place_of same_grain (record_of parts number).grain parts.grains ≡ Some j
    → is_held (plain_of parts) (table.name_at parts.subs number) (record_of parts number) ≡ holds number (activation_at parts.grains j)
held-there parts number j stands found =
    let r = record_of parts number in
    let a = activation_at parts.grains j in
    let s = name_at parts.subs.registry.names number in
    ap (λ s. is_held (plain_of parts) s r) (sym (name-same parts.subs number))
    ∙ ap (λ (st : Grain). nat_lt 0 (length (waiting_in s st.mailbox)) || nat_lt 0 (length (running_in s st.running))) (grain-found parts r.grain j no_grain found)
    ∙ outstanding-is parts number a (distinct parts number stands) stands.within (known-at parts j stands.agrees.assembled (place_of-within same_grain r.grain j parts.grains found)) (some-at parts r.grain j stands.agrees found)

-- a grain that was never active holds nothing
pub held-nowhere : (parts : Parts) (number : ℕ) (s : SubName) → place_of same_grain (record_of parts number).grain parts.grains ≡ None → is_held (plain_of parts) s (record_of parts number) ≡ false
held-nowhere parts number s none =
    ap (λ (st : Grain). nat_lt 0 (length (waiting_in s st.mailbox)) || nat_lt 0 (length (running_in s st.running))) (grain-new parts (record_of parts number).grain none)

-- and one that is idle neither
pub held-idle : (parts : Parts) (number : ℕ) → Stands parts number → AreIdle parts.grains → is_held (plain_of parts) (table.name_at parts.subs number) (record_of parts number) ≡ false
held-idle parts number stands idle = by (place_of same_grain (record_of parts number).grain parts.grains) refl
  where
    by : (found : Option ℕ) → place_of same_grain (record_of parts number).grain parts.grains ≡ found → is_held (plain_of parts) (table.name_at parts.subs number) (record_of parts number) ≡ false
    by None at = held-nowhere parts number (table.name_at parts.subs number) at
    by (Some j) at =
        let none = idle j no_grain (place_of-within same_grain (record_of parts number).grain j parts.grains at) in
        held-there parts number j stands at
        ∙ ap₂ (λ (mailbox : List Delivery) (running : Option RunningTurn). list_any (λ (d : Delivery). number == d.sub) mailbox || runs number running) none.0 none.1

-- with all that is handled acknowledged, what is held is outstanding
unacknowledged-none : (parts : Parts) (number : ℕ) (s : SubName) → is_unacknowledged (record_of parts number) ≡ false → is_outstanding (plain_of parts) s (record_of parts number) ≡ is_held (plain_of parts) s (record_of parts number)
unacknowledged-none parts number s none = rw (none, or-false) refl

pub outstanding-held : (parts : Parts) (number j : ℕ) → Stands parts number → is_unacknowledged (record_of parts number) ≡ false → place_of same_grain (record_of parts number).grain parts.grains ≡ Some j
    → is_outstanding (plain_of parts) (table.name_at parts.subs number) (record_of parts number) ≡ holds number (activation_at parts.grains j)
outstanding-held parts number j stands none found = unacknowledged-none parts number (table.name_at parts.subs number) none ∙ held-there parts number j stands found

pub outstanding-nowhere : (parts : Parts) (number : ℕ) (s : SubName) → is_unacknowledged (record_of parts number) ≡ false → place_of same_grain (record_of parts number).grain parts.grains ≡ None
    → is_outstanding (plain_of parts) s (record_of parts number) ≡ false
outstanding-nowhere parts number s handled none = unacknowledged-none parts number s handled ∙ held-nowhere parts number s none

-- ---- what was sought

-- what a search for a subscription's next event found, and what it left of the table
abbrev pub IsSought : PlainTable → PlainTable → ℕ → PlainCache → StreamId → Bool → Sought → Type 0
IsSought t new number cache stream outstanding sought.Closed = (new ≡ t) × ((state_at t number).live ≡ false)
IsSought t new number cache stream outstanding sought.Nothing =
    (new ≡ with_state t number (caught_up (high cache) outstanding (state_at t number))) × ((state_at t number).live ≡ true) × (next_in cache (state_at t number).cursor stream (state_at t number).start ≡ None)
IsSought t new number cache stream outstanding (sought.Next position) =
    (new ≡ t) × ((state_at t number).live ≡ true) × (next_in cache (state_at t number).cursor stream (state_at t number).start ≡ Some position)

state-kept : (t : PlainTable) (number : ℕ) → with_state t number (state_at t number) ≡ t
state-kept t number = ap (λ (states : List SubState). record t { states = states }) (set-get_or t.states number no_state)

pub sought-is : (t new : PlainTable) (number : ℕ) (cache : PlainCache) (stream : StreamId) (outstanding : Bool) (told : Sought)
    → ◌≡◌ {A = PlainTable × Sought} (new, told) (stepped t number (next_event cache (state_at t number) stream outstanding)) → IsSought t new number cache stream outstanding told
sought-is t new number cache stream outstanding told is =
    subst (λ (r : PlainTable × Sought). IsSought t r.0 number cache stream outstanding r.1) (sym is)
    (by (state_at t number).live (next_in cache (state_at t number).cursor stream (state_at t number).start) refl refl)
  where
    state : SubState
    state = state_at t number

    by : (is_open : Bool) (next : Option ℕ) → state.live ≡ is_open → next_in cache state.cursor stream state.start ≡ next
        → let r : PlainTable × Sought = stepped t number (if not is_open then (state, sought.Closed) else next_at cache state outstanding next) in IsSought t r.0 number cache stream outstanding r.1
    by false next opened found = (state-kept t number, opened)
    by true None opened found = (refl, opened, found)
    by true (Some position) opened found = (state-kept t number, opened, found)

-- ---- the grain is offered the event

abbrev pub OfferIs : ℕ → PlainGrains → PlainGrains → Delivery → Offered → Type 0
OfferIs j old new d offer.MailboxFull = (new ≡ old) × (nat_le MAILBOX_PLACES (length (activation_at old j).mailbox) ≡ true)
OfferIs j old new d offer.Delivered = (new ≡ change_at (λ a. woken a d) j old) × (nat_le MAILBOX_PLACES (length (activation_at old j).mailbox) ≡ false)

pub offer-is : (j : ℕ) (old new : PlainGrains) (d : Delivery) (told : Offered) → OffersAt j old new (Ok told) d → OfferIs j old new d told
offer-is j old new d told offers =
    let a = activation_at old j in
    let becomes : new ≡ change_at (λ _. (offered a d).0) j old = offers.0 ∙ change_at-by (λ a. (offered a d).0) j old no_grain in
    let Fits : PlainActivation × Offered → Type 0 = λ made. new ≡ change_at (λ _. made.0) j old → OfferIs j old new d made.1 in
    subst (OfferIs j old new d) (sym offers.1)
    (cond_both (nat_le MAILBOX_PLACES (length a.mailbox)) (a, offer.MailboxFull) (woken a d, offer.Delivered) Fits
    (λ full now. (now ∙ change_at-kept j old no_grain, full)) (λ room now. (now ∙ sym (change_at-by (λ a. woken a d) j old no_grain), room)) becomes)

-- an offer takes memory only at a delivery that is taken, the first of its subscription
pub offer-first : (j : ℕ) (old : PlainGrains) (d : Delivery) → offer_takes_memory (activation_at old j) d ≡ true → (nat_le MAILBOX_PLACES (length (activation_at old j).mailbox) ≡ false) × (is_in (activation_at old j).subs d.sub ≡ false)
offer-first j old d takes =
    let parts = and_parts (not (nat_le MAILBOX_PLACES (length (activation_at old j).mailbox))) (not (is_in (activation_at old j).subs d.sub)) takes in
    (not-true _ parts.0, not-true _ parts.1)

-- ---- the event is handed over

-- activations have no greater numbers than there are rises, so that the next one is one more
activation-rises : (parts : Parts) (j : ℕ) → Agrees parts → j < length parts.grains → next_activation (activation_at parts.grains j).number ≡ suc (activation_at parts.grains j).number
activation-rises parts j agrees within =
    omega (arith, All-at (λ (g : GrainId × PlainActivation). g.1.number ≤ parts.rises) parts.grains j no_grain (numbers parts.grains agrees.within.activations) within, agrees.within.rises, agrees.within.limits.rises)
  where
    numbers : (grains : PlainGrains) → AllByRecursion (λ (entry : GrainId × Grain). entry.1.activation ≤ parts.rises) (grains_of parts.subs.registry.names grains) → AllByRecursion (λ (g : GrainId × PlainActivation). g.1.number ≤ parts.rises) grains
    numbers [] all = tt
    numbers (g ∷ grains) all = (all.0, numbers grains all.1)

-- what an operation leaves and answers
abbrev pub Answer : Type 0
Answer = PlainPartition × Reply

-- what is to be done
abbrev pub ToDo : Parts → Delivery → Answer
ToDo parts d = plain.deliver (plain_of parts) parts.agent.generation (table.name_at parts.subs d.sub)

-- ---- the numbers that grains know

with-number-all : (P : ℕ → Type 0) (n : ℕ) (ms : List ℕ) → P n → AllByRecursion P ms → AllByRecursion P (with_number n ms)
with-number-all P n [] is all = (is, tt)
with-number-all P n (m ∷ ms) is all =
    by (nat_lt n m) (n == m) (with-number-all P n ms is all.1)
  where
    by : (less same : Bool) → AllByRecursion P (with_number n ms) → AllByRecursion P (if less then n ∷ m ∷ ms else if same then m ∷ ms else m ∷ with_number n ms)
    by true same rest = (is, all)
    by false true rest = all
    by false false rest = (all.0, rest)

woken-below : (n : ℕ) (a : PlainActivation) (d : Delivery) → d.sub < n → IsBelow n a → IsBelow n (woken a d)
woken-below n a d within below =
    record {
      waiting = All-append (λ (e : Delivery). e.sub < n) a.mailbox (d ∷ []) below.waiting (within, tt);
      running = below.running;
      subs = with-number-all (λ sub. sub < n) d.sub a.subs within below.subs;
    }

abbrev pub AreBelow : Parts → PlainGrains → Type 0
AreBelow parts grains = AllByRecursion (λ (g : GrainId × PlainActivation). IsBelow (length parts.subs.registry.names) g.1) grains

-- the cursor of its subscription past the event
abbrev pub sent_states : Parts → Delivery → List SubState
sent_states parts d = set parts.subs.states d.sub (advanced d.position (state_at parts.subs d.sub))

-- what stands where the next event of a subscription is handed to an activation, which leaves these grains
pub record Hands (parts : Parts) (d : Delivery) (a : PlainActivation) (grains : PlainGrains) : Type 0 where
  pub agrees : Agrees parts
  pub next : IsNext parts d
  pub goes : GoesTo parts d a grains
  -- nothing waits where it isn't active
  pub idle : a.active ≡ false → length a.mailbox ≡ 0
  pub below : AreBelow parts grains
  pub known : AreKnown parts.subs.registry.names (sent_states parts d) grains

-- its grain was active before
pub hands-known : (parts : Parts) (d : Delivery) (j : ℕ) → Agrees parts → IsNext parts d → number_of parts.grains (record_of parts d.sub).grain ≡ Some j → Hands parts d (activation_at parts.grains j) (change_at (λ a. woken a d) j parts.grains)
hands-known parts d j agrees next found =
    let inside = place_of-within same_grain (record_of parts d.sub).grain j parts.grains found in
    record {
      agrees = agrees;
      next = next;
      goes = goes-to-known parts d j found (activation-rises parts j agrees inside);
      idle = idle-empty parts (record_of parts d.sub).grain j agrees found;
      below = All-change_at (IsBelow (length parts.subs.registry.names)) (λ a. woken a d) j parts.grains (λ a below. woken-below (length parts.subs.registry.names) a d next.numbered below) agrees.assembled.numbered;
      known =
          known-woken (advanced d.position (state_at parts.subs d.sub)) d agrees.assembled.known (becomes-changed parts.grains j (λ a. woken a d) inside) next.numbered
          (subst (λ (g : GrainId). same_grain (record_of parts d.sub).grain g ≡ true) (sym ((becomes-changed parts.grains j (λ a. woken a d) inside).forth j inside).1) (place_of-key same_grain (record_of parts d.sub).grain parts.grains no_grain j found));
    }

-- its grain was never active
pub hands-first : (parts : Parts) (d : Delivery) → Agrees parts → IsNext parts d → number_of parts.grains (record_of parts d.sub).grain ≡ None → Hands parts d new_activation (with_grain parts.grains (record_of parts d.sub).grain d)
hands-first parts d agrees next none =
    record {
      agrees = agrees;
      next = next;
      goes = goes-to-first parts d none;
      idle = λ idle. refl;
      below =
          All-append (λ (e : GrainId × PlainActivation). IsBelow (length parts.subs.registry.names) e.1) parts.grains (((record_of parts d.sub).grain, woken new_activation d) ∷ []) agrees.assembled.numbered
          (woken-below (length parts.subs.registry.names) new_activation d next.numbered (record { waiting = tt; running = tt; subs = tt }), tt);
      known = known-woken (advanced d.position (state_at parts.subs d.sub)) d agrees.assembled.known (becomes-added parts.grains (record_of parts d.sub).grain (λ a. woken a d)) next.numbered (its parts.grains);
    }
  where
    its : (grains : PlainGrains) → same_grain (record_of parts d.sub).grain (grain_at (with_grain grains (record_of parts d.sub).grain d) (length grains)) ≡ true
    its [] = same_grain-refl (record_of parts d.sub).grain
    its (g ∷ grains) = its grains

-- where this is known of an idle grain, a rise is left if it is one
abbrev pub HasRise : Parts → Bool → Type 0
HasRise parts active = active ≡ false → is_spent (plain_of parts) ≡ false

has-rise : (parts : Parts) (active : Bool) → HasRise parts active → (not active && is_spent (plain_of parts)) ≡ false
has-rise parts true rise = refl
has-rise parts false rise = rise refl

-- what is known of the parts, of the subscription's number
pub next-stands : {parts : Parts} {d : Delivery} → Agrees parts → IsNext parts d → Stands parts d.sub
next-stands agrees next = record { agrees = agrees; within = next.numbered }

module _ {parts : Parts} {d : Delivery} {a : PlainActivation} {grains : PlainGrains} (hands : Hands parts d a grains) where
  hands-told : (full lacks : Bool) → nat_le MAILBOX_PLACES (length a.mailbox) ≡ full → (not a.active && is_spent (plain_of parts)) ≡ lacks
      → ToDo parts d
      ≡ (if full then (plain_of parts, reply.MailboxFull)
      else if lacks then (plain_of parts, reply.Spent)
      else (plain_of (sent (record parts { grains = grains }) d (not a.active)), reply.Delivered (token_at (plain_of parts) d.position)))
  hands-told full lacks is_full is_lacking =
      let stands : Stands parts d.sub = next-stands hands.agrees hands.next in
      rw (← is_full, ← is_lacking)
      (deliver-next parts parts.agent.generation (table.name_at parts.subs d.sub) d a grains
      (record { lengths = sym hands.agrees.records.long; own = eq-eqb parts.agent.generation parts.agent.generation refl; found = named parts d.sub stands; is_open = hands.next.is_open })
      hands.next.next (sym (name-same parts.subs d.sub)) hands.goes)

  pub hands-full : nat_le MAILBOX_PLACES (length a.mailbox) ≡ true → ToDo parts d ≡ (plain_of parts, reply.MailboxFull)
  hands-full full = hands-told true _ full refl

  pub hands-spent : a.active ≡ false → is_spent (plain_of parts) ≡ true → ToDo parts d ≡ (plain_of parts, reply.Spent)
  hands-spent idle spent =
      hands-told false true (ap (λ n. nat_le MAILBOX_PLACES n) (hands.idle idle)) (ap (λ active. not active && is_spent (plain_of parts)) idle ∙ spent)

  hands-done : nat_le MAILBOX_PLACES (length a.mailbox) ≡ false → HasRise parts a.active
      → ToDo parts d ≡ (plain_of (sent (record parts { grains = grains }) d (not a.active)), reply.Delivered (token_at (plain_of parts) d.position))
  hands-done room rise = hands-told false false room (has-rise parts a.active rise)

  -- what the calls left is what is to be done
  pub hands-performs : {new : Parts} {told : Reply} (wakes : Bool) → nat_le MAILBOX_PLACES (length a.mailbox) ≡ false → HasRise parts a.active → wakes ≡ not a.active
      → new ≡ sent (record parts { grains = grains }) d wakes → told ≡ reply.Delivered (token_at (plain_of parts) d.position) → ◌≡◌ {A = Answer} (plain_of new, told) (ToDo parts d)
  hands-performs wakes room rise wake is told_is =
      ap₂ {C = Answer} (λ (p : Parts) (r : Reply). (plain_of p, r)) (is ∙ ap (sent (record parts { grains = grains }) d) wake) told_is ∙ sym (hands-done room rise)

  pub hands-assembled : {new : Parts} (wakes : Bool) → new ≡ sent (record parts { grains = grains }) d wakes → IsAssembled new
  hands-assembled wakes is =
      let assembled = hands.agrees.assembled in
      subst IsAssembled (sym is) (record { most_subs = assembled.most_subs; most_rules = assembled.most_rules; most_events = assembled.most_events; cached = assembled.cached; numbered = hands.below; known = hands.known })

  -- memory is wanted only there
  pub hands-memory : {T E : Type 0} (r : Result T E) → nat_le MAILBOX_PLACES (length a.mailbox) ≡ false → HasRise parts a.active → OnErr r (takes_memory (ToDo parts d).1 ≡ true)
  hands-memory r room rise = on-error r (ap (λ (told : Answer). takes_memory told.1) (hands-done room rise))

-- ---- bounds

pub position-few : (parts : Parts) (d : Delivery) → Agrees parts → IsNext parts d → d.position + 3 < 2 ^ 64
position-few parts d agrees next = omega (arith, high-few parts agrees, next.cached)

pub position-there : (parts : Parts) (d : Delivery) → Agrees parts → IsNext parts d → d.position < length parts.queue.events
position-there parts d agrees next = omega (arith, high-end parts agrees, next.cached)

-- ---- a failure to allocate

-- where nothing is on its way and nothing is handled, nothing is outstanding
none-outstanding : (parts : Parts) (number : ℕ) → Stands parts number → (state_at parts.subs number).handled ≡ [] → IsUnheld parts.subs.registry.names parts.grains number
    → is_outstanding (plain_of parts) (table.name_at parts.subs number) (record_of parts number) ≡ false
none-outstanding parts number stands handled unheld = by (place_of same_grain g parts.grains) refl
  where
    g : GrainId
    g = (record_of parts number).grain

    acknowledged : is_unacknowledged (record_of parts number) ≡ false
    acknowledged = ap (λ positions. nat_lt (state_at parts.subs number).resume (past positions)) handled ∙ le-ltb (state_at parts.subs number).resume 0 (omega arith)

    by : (at : Option ℕ) → place_of same_grain g parts.grains ≡ at → is_outstanding (plain_of parts) (table.name_at parts.subs number) (record_of parts number) ≡ false
    by None none = outstanding-nowhere parts number (table.name_at parts.subs number) acknowledged none
    by (Some j) found = outstanding-held parts number j stands acknowledged found ∙ unheld j (place_of-within same_grain g j parts.grains found) (place_of-key same_grain g parts.grains no_grain j found)

-- the record with a number is untouched, under its name
abbrev pub Untouched : Parts → ℕ → Type 0
Untouched parts number = is_untouched (plain_of parts) (table.name_at parts.subs number) (Some (record_of parts number)) ≡ true

-- a record that no grain knows of is so
pub untouched-unknown : {T E : Type 0} {parts : Parts} {d : Delivery} (r : Result T E) → Agrees parts → IsNext parts d → IsUnknown parts.subs.registry.names parts.grains d.sub → OnErr r (Untouched parts d.sub)
untouched-unknown {T} {E} {parts} {d} r agrees next unknown =
    let is = agrees.assembled.known.untouched d.sub next.numbered next.is_open unknown in
    on-error r
    (and_from _ _ (eq-eqb _ _ is.at_resume)
    (and_from _ _ (ap (λ (positions : List ℕ). length positions == 0) is.unhandled) (ap not (none-outstanding parts d.sub (next-stands agrees next) is.unhandled is.unheld))))

-- ---- what the search of an open subscription found is its next position

pub sought-next : (parts : Parts) (number : ℕ) (o : Option ℕ) → Stands parts number → (state_at parts.subs number).live ≡ true
    → next_in parts.agent.cache (state_at parts.subs number).cursor (registration_at parts.subs number).stream (state_at parts.subs number).start ≡ o → next_position (plain_of parts) (record_of parts number) ≡ o
sought-next parts number o stands is_open found =
    next-is parts (record_of parts number) stands.agrees.assembled.cached (cursor-low parts number stands is_open)
    ∙ ap (λ start. next_in parts.agent.cache (state_at parts.subs number).cursor (registration_at parts.subs number).stream start) (sym (stands.agrees.records.starts number (omega (arith, stands.agrees.records.long, stands.within))))
    ∙ found

-- the parts with this table
abbrev pub with_subs : Parts → PlainTable → Parts
with_subs parts t = record parts { subs = t }

abbrev pub Searched : Parts → PlainTable → ℕ → Bool → Sought → Type 0
Searched parts t number outstanding told = IsSought parts.subs t number parts.agent.cache (registration_at parts.subs number).stream outstanding told

-- what the agent was asked to deliver
abbrev pub search_in : Parts → ℕ → Bool → PlainTable × Sought
search_in parts number outstanding = stepped parts.subs number (next_event parts.agent.cache (state_at parts.subs number) (registration_at parts.subs number).stream outstanding)

-- what it told to its own generation
pub searched-is : (parts : Parts) (generation : ℕ) (t : PlainTable) (number : ℕ) (outstanding : Bool) (told given : Sought) → given ≡ told
    → ◌≡◌ {A = PlainTable × Result Sought StaleAgent} (t, Ok given) (if_current parts.agent generation parts.subs (search_in parts number outstanding)) → Searched parts t number outstanding told
searched-is parts generation t number outstanding told given same is =
    subst (Searched parts t number outstanding) same
    (sought-is parts.subs t number parts.agent.cache (registration_at parts.subs number).stream outstanding given
    (done-current parts.agent generation parts.subs (search_in parts number outstanding) t given is).is)

-- of the subscription with a name
pub record Tells (parts : Parts) (generation : ℕ) (s : SubName) (t : PlainTable) (number : ℕ) (outstanding : Bool) (told : Sought) : Type 0 where
  pub stands : Stands parts number
  pub found : place_of same_sub s parts.subs.registry.names ≡ Some number
  pub own : (generation == parts.agent.generation) ≡ true
  pub sought : Searched parts t number outstanding told

pub tells : {parts : Parts} {given told : Sought} (generation : ℕ) (s : SubName) (t : PlainTable) (number : ℕ) (outstanding : Bool) → Agrees parts → number < length parts.subs.registry.names → Some number ≡ table.number_of parts.subs s → given ≡ told
    → ◌≡◌ {A = PlainTable × Result Sought StaleAgent} (t, Ok given) (if_current parts.agent generation parts.subs (search_in parts number outstanding)) → Tells parts generation s t number outstanding told
tells {parts} {given} {told} generation s t number outstanding agrees within found same is = record {
  stands = record { agrees = agrees; within = within };
  found = sym found;
  own = (done-current parts.agent generation parts.subs (search_in parts number outstanding) t given is).own;
  sought = searched-is parts generation t number outstanding told given same is;
}

-- the next event is there
module _ {parts : Parts} {generation : ℕ} {s : SubName} {t : PlainTable} {number : ℕ} {outstanding : Bool} {position : ℕ} (told : Tells parts generation s t number outstanding (sought.Next position)) where
  pub next-there : position < high parts.agent.cache → IsNext (with_subs parts t) (record { sub = number; position = position })
  next-there cached =
      subst (λ (t : PlainTable). IsNext (with_subs parts t) (record { sub = number; position = position })) (sym told.sought.0)
      (record { numbered = told.stands.within; is_open = told.sought.1; next = sought-next parts number (Some position) told.stands told.sought.1 told.sought.2; cached = cached })

  -- its record is untouched under the name that is asked for
  pub untouched-there : {T E : Type 0} (r : Result T E) → OnErr r (Untouched (with_subs parts t) number) → OnErr r (is_untouched (plain_of parts) s (sub_at (plain_of parts) s) ≡ true)
  untouched-there r first =
      subst (λ (found : Option Subscription). OnErr r (is_untouched (plain_of parts) s found ≡ true)) (sym (record-found parts s number no_entry no_state (sym told.stands.agrees.records.long) told.found))
      (subst (λ (name : SubName). OnErr r (is_untouched (plain_of parts) name (Some (record_of parts number)) ≡ true)) (sym (name-of-place s parts.subs.registry.names number no_entry told.found))
      (subst (λ (t : PlainTable). OnErr r (Untouched (with_subs parts t) number)) told.sought.0 first))

  -- what is to be done is as before
  pub todo-is : ToDo (with_subs parts t) (record { sub = number; position = position }) ≡ plain.deliver (plain_of parts) generation s
  todo-is =
      ap {B = Answer} (λ (t : PlainTable). ToDo (with_subs parts t) (record { sub = number; position = position })) told.sought.0
      ∙ ap₂ {C = Answer} (plain.deliver (plain_of parts)) (sym (eqb-true generation parts.agent.generation told.own)) (sym (name-of-place s parts.subs.registry.names number no_entry told.found))

  pub todo-performs : (new : PlainPartition) (r : Result Reply AllocError) → Performs (plain_of (with_subs parts t)) new r (ToDo (with_subs parts t) (record { sub = number; position = position })) → Performs (plain_of parts) new r (plain.deliver (plain_of parts) generation s)
  todo-performs new r performs =
      subst (λ (done : Answer). Performs (plain_of parts) new r done) todo-is
      (subst (λ (u : PlainTable). Performs (plain_of (with_subs parts u)) new r (ToDo (with_subs parts t) (record { sub = number; position = position }))) told.sought.0 performs)

-- nothing is left for the subscription
pub nothing-performs : {parts : Parts} {generation : ℕ} {s : SubName} {t : PlainTable} {number : ℕ} {outstanding : Bool} → Tells parts generation s t number outstanding sought.Nothing
    → outstanding ≡ is_outstanding (plain_of parts) (table.name_at parts.subs number) (record_of parts number) → ◌≡◌ {A = Answer} (plain_of (with_subs parts t), reply.Nothing) (plain.deliver (plain_of parts) generation s)
nothing-performs {parts} {generation} {s} {t} {number} {outstanding} told is_out =
    ap {B = Answer} (λ (t : PlainTable). (plain_of (with_subs parts t), reply.Nothing)) told.sought.0
    ∙ sym (deliver-nothing parts generation s number outstanding (record { lengths = sym told.stands.agrees.records.long; own = told.own; found = told.found; is_open = told.sought.1 })
    (sought-next parts number None told.stands told.sought.1 told.sought.2) (ap (λ name. is_outstanding (plain_of parts) name (record_of parts number)) (name-of-place s parts.subs.registry.names number no_entry told.found) ∙ sym is_out))

-- and so the resume follows the cursor of a subscription that nothing was offered for
pub nothing-assembled : (parts : Parts) (t : PlainTable) (number : ℕ) (outstanding : Bool) → Stands parts number → outstanding ≡ is_outstanding (plain_of parts) (table.name_at parts.subs number) (record_of parts number)
    → Searched parts t number outstanding sought.Nothing → IsAssembled (with_subs parts t)
nothing-assembled parts t number outstanding stands is_out sought =
    subst (λ (t : PlainTable). IsAssembled (with_subs parts t)) (sym sought.0)
    (assembled-subs parts (with_state parts.subs number (caught_up (high parts.agent.cache) outstanding state)) (record { names = refl; most_names = refl; most_rules = refl })
    (known-state parts.subs.registry.names parts.subs.states parts.grains number (caught_up (high parts.agent.cache) outstanding state) assembled.known (omega (arith, stands.within, stands.agrees.records.long)) (λ is_open. is_open)
    (λ at none unheld. (follows (is_out ∙ none-outstanding parts number stands none unheld), none)))
    assembled)
  where
    assembled : IsAssembled parts
    assembled = stands.agrees.assembled

    state : SubState
    state = state_at parts.subs number

    follows : outstanding ≡ false → max state.cursor (high parts.agent.cache) ≡ (if outstanding then state.resume else max state.cursor (high parts.agent.cache))
    follows none = sym (ap (λ b. if b then state.resume else max state.cursor (high parts.agent.cache)) none)

-- the subscription is closed
pub closed-performs : {parts : Parts} {generation : ℕ} {s : SubName} {t : PlainTable} {number : ℕ} {outstanding : Bool} → Tells parts generation s t number outstanding sought.Closed → ◌≡◌ {A = Answer} (plain_of (with_subs parts t), reply.Closed) (plain.deliver (plain_of parts) generation s)
closed-performs {parts} {generation} {s} {t} {number} told =
    ap {B = Answer} (λ (t : PlainTable). (plain_of (with_subs parts t), reply.Closed)) told.sought.0
    ∙ sym (deliver-closed parts generation s number (sym told.stands.agrees.records.long) told.own told.found told.sought.1)
