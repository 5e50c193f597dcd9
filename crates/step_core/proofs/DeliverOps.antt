-- An agent delivers, done by the parts.
use Rattle.step_core.proofs.Prelude.{lower_in, next_in, PlainActivation, new_activation, next_activation, woken, advanced, caught_up, Delivery, activation_at, no_grain, PlainGrains, Registration, high, bare, ◌≡◌, ◌∙◌, ap, ap₂, sym, refl, ℕ, zero, suc, ◌≤◌, Bool, true, false, ◌&&◌, not, List, [], ◌∷◌, length, take, drop, max, Some, None, ◌==◌, nat_le, arith, take-nil, drop-drop, drop-map, map-append, length-map, if◌then◌else◌, unwrap_or, is_owed, same_grain, same_sub, token_lt, change_at, first_at, place_of, Event, SubName, MAILBOX_PLACES, Token, between, grain_at, is_outstanding, is_spent, lower_bound, next_position, token_at, with_grain, with_sub, Reply, PlainPartition, Subscription, no_entry, no_state, state_at, with_state, ◌-◌}
use Rattle.stream_model.specs.declared.reply.Reply.TheVariants as reply
use Rattle.stream_model.specs.Pulling as plain
use Rattle.grain_table.specs.Grains as table
use Rattle.cache_cursor.proofs.SeekLemmas.{first_at-bare}
use Rattle.step_core.specs.declared.parts.Parts.{Parts}
use Rattle.step_core.specs.PlainOf.{plain_of}
use Rattle.step_core.specs.Assembly.{HasEvents}
use Rattle.step_core.specs.Handing.{sent}
use Rattle.step_core.specs.Records.{record_of}
use Rattle.step_core.specs.View.{delivery_of, grain_of, name_at}
use Rattle.step_core.proofs.GrainOps.{grain-added, grain-found, grain-new, grain-set}
use Rattle.step_core.proofs.RecordOps.{record-found, record-set}

-- a list's middle from either end
window : {A : Type 0} (k m : ℕ) (xs : List A) → drop k (take m xs) ≡ take (m - k) (drop k xs)
window zero m xs = ap (λ n. take n xs) (omega arith)
window (suc k) zero xs = ap (λ n. take n (drop (suc k) xs)) {x = 0} {y = 0 - suc k} (omega arith)
window {A} (suc k) (suc m) [] = sym (take-nil (suc m - suc k))
window (suc k) (suc m) (x ∷ xs) = window k m xs ∙ ap (λ n. take n (drop k xs)) (omega arith)

-- what the cache has from a position on
between-from : (log : List Event) (low cursor top : ℕ) → low ≤ cursor → drop (cursor - low) (take (top - low) (drop low log)) ≡ take (top - cursor) (drop cursor log)
between-from log low cursor top le =
    window (cursor - low) (top - low) (drop low log)
    ∙ ap (λ n. take n (drop (cursor - low) (drop low log))) (omega (arith, le))
    ∙ ap (λ xs. take (top - cursor) xs) (drop-drop (cursor - low) low log)
    ∙ ap (λ n. take (top - cursor) (drop n log)) (omega (arith, le))

pub next-is : (parts : Parts) (r : Subscription) → HasEvents parts → parts.agent.cache.low ≤ r.cursor → next_position (plain_of parts) r ≡ next_in parts.agent.cache r.cursor r.stream r.start
next-is parts r has le =
    let cached = between parts.queue.events parts.agent.cache.low (high parts.agent.cache) in
    let past = r.cursor - parts.agent.cache.low in
    sym (ap (λ events. first_at (λ event. is_owed r.stream r.start event) r.cursor (drop past events)) has
    ∙ ap (first_at (λ event. is_owed r.stream r.start event) r.cursor) (drop-map bare past cached)
    ∙ first_at-bare (λ event. is_owed r.stream r.start event) (λ event. refl) r.cursor (drop past cached)
    ∙ ap (λ events. first_at (λ event. is_owed r.stream r.start event) r.cursor events) (between-from parts.queue.events parts.agent.cache.low r.cursor (high parts.agent.cache) le))

pub lower-is : (parts : Parts) (token : Token) → HasEvents parts → lower_bound (plain_of parts) token ≡ lower_in parts.agent.cache token
lower-is parts token has =
    let cached = between parts.queue.events parts.agent.cache.low (high parts.agent.cache) in
    ap (λ found. unwrap_or found (high parts.agent.cache)) (sym (first_at-bare (λ event. not (token_lt event.token token)) (λ event. refl) parts.agent.cache.low cached))
    ∙ ap (λ events. unwrap_or (first_at (λ event. not (token_lt event.token token)) parts.agent.cache.low events) (high parts.agent.cache)) (sym has)

-- ---- what an agent hands over

pub deliver-closed : (parts : Parts) (generation : ℕ) (s : SubName) (i : ℕ) → length parts.subs.registry.names ≡ length parts.subs.states → (generation == parts.agent.generation) ≡ true → place_of same_sub s parts.subs.registry.names ≡ Some i → (state_at parts.subs i).live ≡ false
    → plain.deliver (plain_of parts) generation s ≡ (plain_of parts, reply.Closed)
unfolding plain.deliver plain.deliver_to
deliver-closed parts generation s i lengths current found is_closed = rw (current, record-found parts s i no_entry no_state lengths found, is_closed) refl

-- an open subscription whose next event is sought
pub record Seeks (parts : Parts) (generation : ℕ) (s : SubName) (i : ℕ) : Type 0 where
  pub lengths : length parts.subs.registry.names ≡ length parts.subs.states
  pub own : (generation == parts.agent.generation) ≡ true
  pub found : place_of same_sub s parts.subs.registry.names ≡ Some i
  pub is_open : (state_at parts.subs i).live ≡ true

deliver-open : (parts : Parts) (generation : ℕ) (s : SubName) (i : ℕ) → Seeks parts generation s i
    → plain.deliver (plain_of parts) generation s ≡ plain.deliver_position (plain_of parts) s (record_of parts i) (grain_at (plain_of parts) (record_of parts i).grain) (next_position (plain_of parts) (record_of parts i))
unfolding plain.deliver plain.deliver_to
deliver-open parts generation s i seeks =
    rw (seeks.own, record-found parts s i no_entry no_state seeks.lengths seeks.found)
    (ap (λ b. if not b then (plain_of parts, reply.Closed) else plain.deliver_position (plain_of parts) s (record_of parts i) (grain_at (plain_of parts) (record_of parts i).grain) (next_position (plain_of parts) (record_of parts i))) seeks.is_open)

-- nothing is left for it
pub deliver-nothing : (parts : Parts) (generation : ℕ) (s : SubName) (i : ℕ) (outstanding : Bool) → Seeks parts generation s i
    → next_position (plain_of parts) (record_of parts i) ≡ None → is_outstanding (plain_of parts) s (record_of parts i) ≡ outstanding
    → plain.deliver (plain_of parts) generation s ≡ (plain_of (record parts { subs = with_state parts.subs i (caught_up (high parts.agent.cache) outstanding (state_at parts.subs i)) }), reply.Nothing)
unfolding plain.deliver_position
deliver-nothing parts generation s i outstanding seeks none is_out =
    deliver-open parts generation s i seeks
    ∙ ap (λ o. plain.deliver_position (plain_of parts) s (record_of parts i) (grain_at (plain_of parts) (record_of parts i).grain) o) none
    ∙ ap {B = PlainPartition × Reply} (λ b. (with_sub (plain_of parts) s (change b (record_of parts i)), reply.Nothing)) is_out
    ∙ ap {B = PlainPartition × Reply} (λ p. (p, reply.Nothing)) (record-set parts s i no_entry no_state (caught_up (high parts.agent.cache) outstanding (state_at parts.subs i)) (change outstanding) seeks.lengths seeks.found refl)
  where
    change : Bool → Subscription → Subscription
    change b r = record r { cursor = max r.cursor (high parts.agent.cache); resume = if b then r.resume else max r.cursor (high parts.agent.cache) }

-- the cursor of the subscription past its next event
abbrev pub past_event : Parts → Delivery → Parts
past_event parts d = record parts { subs = with_state parts.subs d.sub (advanced d.position (state_at parts.subs d.sub)) }

-- the activation of its grain, and the grains with the event offered to it
pub record GoesTo (parts : Parts) (d : Delivery) (a : PlainActivation) (grains : PlainGrains) : Type 0 where
  pub is : grain_at (plain_of parts) (record_of parts d.sub).grain ≡ grain_of parts.subs.registry.names a
  pub by_one : next_activation a.number ≡ suc a.number
  pub offered : with_grain (plain_of (past_event parts d)) (record_of parts d.sub).grain (grain_of parts.subs.registry.names (woken a d)) ≡ plain_of (record (past_event parts d) { grains = grains })

-- it was active before
pub goes-to-known : (parts : Parts) (d : Delivery) (j : ℕ) → place_of same_grain (record_of parts d.sub).grain parts.grains ≡ Some j → next_activation (activation_at parts.grains j).number ≡ suc (activation_at parts.grains j).number
    → GoesTo parts d (activation_at parts.grains j) (change_at (λ a. woken a d) j parts.grains)
goes-to-known parts d j found by_one =
    record {
      is = grain-found parts (record_of parts d.sub).grain j no_grain found;
      by_one = by_one;
      offered = grain-set (past_event parts d) (record_of parts d.sub).grain j no_grain (λ a. woken a d) (λ st. grain_of parts.subs.registry.names (woken (activation_at parts.grains j) d)) found refl;
    }

-- it was never active
pub goes-to-first : (parts : Parts) (d : Delivery) → place_of same_grain (record_of parts d.sub).grain parts.grains ≡ None → GoesTo parts d new_activation (table.with_grain parts.grains (record_of parts d.sub).grain d)
goes-to-first parts d none =
    record {
      is = grain-new parts (record_of parts d.sub).grain none;
      by_one = refl;
      offered = grain-added (past_event parts d) (record_of parts d.sub).grain (woken new_activation d) none;
    }

-- the next event
pub deliver-next : (parts : Parts) (generation : ℕ) (s : SubName) (d : Delivery) (a : PlainActivation) (grains : PlainGrains) → Seeks parts generation s d.sub
    → next_position (plain_of parts) (record_of parts d.sub) ≡ Some d.position → s ≡ name_at parts.subs.registry.names d.sub → GoesTo parts d a grains
    → plain.deliver (plain_of parts) generation s
    ≡ (if nat_le MAILBOX_PLACES (length a.mailbox) then (plain_of parts, reply.MailboxFull)
    else if not a.active && is_spent (plain_of parts) then (plain_of parts, reply.Spent)
    else (plain_of (sent (record parts { grains = grains }) d (not a.active)), reply.Delivered (token_at (plain_of parts) d.position)))
unfolding plain.deliver_position
deliver-next parts generation s d a grains seeks some is_name goes =
    deliver-open parts generation s d.sub seeks
    ∙ ap (λ o. plain.deliver_position (plain_of parts) s r (grain_at (plain_of parts) r.grain) o) some
    ∙ ap (λ st. plain.deliver_position (plain_of parts) s r st (Some d.position)) goes.is
    ∙ ap₂ answer (length-map a.mailbox (delivery_of names)) (before ∙ after)
  where
    names : List (SubName × Registration)
    names = parts.subs.registry.names

    r : Subscription
    r = record_of parts d.sub

    answer : ℕ → PlainPartition → PlainPartition × Reply
    answer waiting left =
        if nat_le MAILBOX_PLACES waiting then (plain_of parts, reply.MailboxFull)
        else if not a.active && is_spent (plain_of parts) then (plain_of parts, reply.Spent)
        else (left, reply.Delivered (token_at (plain_of parts) d.position))

    rises : (active : Bool) → (if active then parts.rises else suc parts.rises) ≡ (if not active then suc parts.rises else parts.rises)
    rises true = refl
    rises false = refl

    moved : with_sub (plain_of parts) s (record r { cursor = suc d.position }) ≡ plain_of (past_event parts d)
    moved = record-set parts s d.sub no_entry no_state (advanced d.position (state_at parts.subs d.sub)) (λ r. record r { cursor = suc d.position }) seeks.lengths seeks.found refl

    wakes : plain.woken (grain_of names a) s d.position ≡ grain_of names (woken a d)
    wakes = rw (goes.by_one, map-append (delivery_of names) a.mailbox (d ∷ []), is_name) refl

    before : plain.delivered (plain_of parts) s r (grain_of names a) d.position ≡ record (with_grain (plain_of (past_event parts d)) r.grain (grain_of names (woken a d))) { rises = if not a.active then suc parts.rises else parts.rises }
    before = λ i. record (with_grain (moved i) r.grain (wakes i)) { rises = rises a.active i }

    after : record (with_grain (plain_of (past_event parts d)) r.grain (grain_of names (woken a d))) { rises = if not a.active then suc parts.rises else parts.rises } ≡ plain_of (sent (record parts { grains = grains }) d (not a.active))
    after = ap (λ (p : PlainPartition). record p { rises = if not a.active then suc parts.rises else parts.rises }) goes.offered
