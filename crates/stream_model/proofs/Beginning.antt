-- What a worker's begin leaves and answers, case by case.
use Rattle.stream_model.proofs.Prelude.{◌≡◌, ℕ, zero, suc, ◌<◌, Bool, true, false, List, [], ◌∷◌, drop, get_or, length, Option, Some, None, refl, sym, ap, subst, ◌∙◌, nat_le, nat_lt, cond_both, slice_get, AllByRecursion, turn_size, same_grain, same_sub, past, value_at, with_value, Event, GrainId, SubName}
use Rattle.std.specs.Option.{is_some, unwrap_or}
use Rattle.std.specs.Prelude.{◌&&◌}
use Rattle.stream_model.specs.declared.plain.Delivery.{Delivery}
use Rattle.stream_model.specs.declared.plain.Grain.{Grain}
use Rattle.stream_model.specs.declared.plain.PlainPartition.{PlainPartition}
use Rattle.stream_model.specs.declared.plain.Subscription.{Subscription}
use Rattle.stream_model.specs.declared.reply.Reply.TheVariants as reply
use Rattle.stream_model.specs.Bounds.{IsWithinLimits}
use Rattle.stream_model.specs.Places.{place_of, started}
use Rattle.stream_model.specs.Positions.{events_at, grain_at, is_spent, new_grain, sub_at, token_at}
use Rattle.stream_model.specs.Turns.{begin, begin_in, begin_front, begin_for, begin_turn, front_of}
use Rattle.stream_model.proofs.Lookups.{place_of-none, place_of-value}

-- the grain that has a record
pub grain_at-is : (p : PlainPartition) (g : GrainId) (st : Grain) → value_at same_grain g p.grains ≡ Some st → grain_at p g ≡ st
grain_at-is p g st e = ap (λ o. unwrap_or o new_grain) e

-- a grain that has a place has a record
pub grain_at-place : (p : PlainPartition) (g : GrainId) (i : ℕ) → place_of same_grain g p.grains ≡ Some i → value_at same_grain g p.grains ≡ Some (grain_at p g)
grain_at-place p g i e =
    let is_v = place_of-value same_grain g i p.grains (g, new_grain) e in
    is_v ∙ ap {B = Option Grain} Some (sym (grain_at-is p g (get_or p.grains i (g, new_grain)).1 is_v))

-- and one that has none
pub grain_at-new : (p : PlainPartition) (g : GrainId) → place_of same_grain g p.grains ≡ None → grain_at p g ≡ new_grain
grain_at-new p g e = ap (λ o. unwrap_or o new_grain) (place_of-none same_grain g p.grains e)

-- the first delivery, as code reads it
pub none-first : (read mailbox : List Delivery) → read ≡ mailbox → None ≡ slice_get read 0 → mailbox ≡ []
none-first [] mailbox same e = sym same
none-first (d ∷ read) mailbox same e = absurd (cc)

pub some-first : (read mailbox : List Delivery) (d : Delivery) → read ≡ mailbox → Some d ≡ slice_get read 0 → mailbox ≡ d ∷ drop 1 mailbox
some-first [] mailbox d same e = absurd (cc)
some-first (x ∷ read) mailbox d same e =
    let is_d : x ≡ d = cc in
    sym same ∙ (ap (λ y. y ∷ read) is_d ∙ ap (λ xs. d ∷ drop 1 xs) same)

pub begin-unknown : (p : PlainPartition) (g : GrainId) (max : ℕ) → place_of same_grain g p.grains ≡ None → (p, reply.Empty) ≡ begin p g max
unfolding begin begin_in
begin-unknown p g max e = sym (ap (begin_in p g (turn_size max)) (grain_at-new p g e))

pub begin-known : (p : PlainPartition) (g : GrainId) (max : ℕ) → begin_in p g (turn_size max) (grain_at p g) ≡ begin p g max
unfolding begin
begin-known p g max = refl

pub begin_in-busy : (p : PlainPartition) (g : GrainId) (n : ℕ) (st : Grain) → is_some st.running ≡ true → (p, reply.Busy) ≡ begin_in p g n st
unfolding begin_in
begin_in-busy p g n st e = rw e refl

pub begin_in-idle : (p : PlainPartition) (g : GrainId) (n : ℕ) (st : Grain) → is_some st.running ≡ false → st.active ≡ false → (p, reply.Empty) ≡ begin_in p g n st
unfolding begin_in
begin_in-idle p g n st free idle = rw (free, idle) refl

pub begin_in-front : (p : PlainPartition) (g : GrainId) (n : ℕ) (st : Grain) → is_some st.running ≡ false → st.active ≡ true → begin_front p g n st st.mailbox ≡ begin_in p g n st
unfolding begin_in
begin_in-front p g n st free active = rw (free, active) refl

pub begin_in-nothing : (p : PlainPartition) (g : GrainId) (n : ℕ) (st : Grain) → is_some st.running ≡ false → st.active ≡ true → st.mailbox ≡ [] → (p, reply.Empty) ≡ begin_in p g n st
unfolding begin_in begin_front
begin_in-nothing p g n st free active nothing = rw (free, active, nothing) refl

-- the front delivery, of a subscription with a record and of one with none
begin_front-for : (p : PlainPartition) (g : GrainId) (n : ℕ) (st : Grain) (front : Delivery) (deliveries : List Delivery) (r : Option Subscription) → st.mailbox ≡ front ∷ deliveries → sub_at p front.sub ≡ r → begin_for p g n st front deliveries r ≡ begin_front p g n st st.mailbox
unfolding begin_front
begin_front-for p g n st front deliveries r first is_r = rw (first, is_r) refl

pub begin_front-unknown : (p : PlainPartition) (g : GrainId) (n : ℕ) (st : Grain) (front : Delivery) (deliveries : List Delivery) → st.mailbox ≡ front ∷ deliveries → place_of same_sub front.sub p.subs ≡ None → (p, reply.Empty) ≡ begin_front p g n st st.mailbox
unfolding begin_for
begin_front-unknown p g n st front deliveries first e =
    begin_front-for p g n st front deliveries None first (place_of-none same_sub front.sub p.subs e)

pub begin_front-handled : (p : PlainPartition) (g : GrainId) (n : ℕ) (st : Grain) (front : Delivery) (r : Subscription) (grains : List (GrainId × Grain)) → st.mailbox ≡ front ∷ drop 1 st.mailbox → value_at same_sub front.sub p.subs ≡ Some r → nat_lt front.position (past r.handled) ≡ true → grains ≡ with_value same_grain g (record st { mailbox = drop 1 st.mailbox }) p.grains → (record p { grains = grains }, reply.Dropped front.sub (token_at p front.position)) ≡ begin_front p g n st st.mailbox
unfolding begin_for
begin_front-handled p g n st front r grains first is_r handled changed =
    rw (changed, ← begin_front-for p g n st front (drop 1 st.mailbox) (Some r) first is_r, handled) refl

pub begin_front-spent : (p : PlainPartition) (g : GrainId) (n : ℕ) (st : Grain) (front : Delivery) (r : Subscription) → st.mailbox ≡ front ∷ drop 1 st.mailbox → value_at same_sub front.sub p.subs ≡ Some r → nat_lt front.position (past r.handled) ≡ false → is_spent p ≡ true → (p, reply.Spent) ≡ begin_front p g n st st.mailbox
unfolding begin_for
begin_front-spent p g n st front r first is_r fresh spent =
    rw (← begin_front-for p g n st front (drop 1 st.mailbox) (Some r) first is_r, fresh, spent) refl

pub begin_front-turn : (p : PlainPartition) (g : GrainId) (n : ℕ) (st : Grain) (front : Delivery) (r : Subscription) → st.mailbox ≡ front ∷ drop 1 st.mailbox → value_at same_sub front.sub p.subs ≡ Some r → nat_lt front.position (past r.handled) ≡ false → is_spent p ≡ false → begin_turn p g st front.sub r.note (front_of n front.sub front.position st.mailbox) ≡ begin_front p g n st st.mailbox
unfolding begin_for
begin_front-turn p g n st front r first is_r fresh left =
    rw (← begin_front-for p g n st front (drop 1 st.mailbox) (Some r) first is_r, fresh, left) refl

-- the turn that begins
pub begin_turn-done : (p : PlainPartition) (g : GrainId) (st : Grain) (s : SubName) (note : ℕ) (positions : List ℕ) (events : List Event) (grains : List (GrainId × Grain)) (rises turns : ℕ) → rises ≡ suc p.rises → turns ≡ suc p.turns → events ≡ events_at p.log positions → grains ≡ with_value same_grain g (started (record { sub = s; turn = turns; positions = positions }) st) p.grains → (record p { grains = grains; rises = rises; turns = turns }, reply.Turn s st.activation turns events note) ≡ begin_turn p g st s note positions
unfolding begin_turn
begin_turn-done p g st s note positions events grains rises turns is_rises is_turns is_events changed =
    rw (changed, is_rises, is_turns, is_events) refl

-- what holds of each value holds of the one at a key
pub All-value_at : {K V : Type 0} (P : V → Type 0) (same : K → K → Bool) (key : K) (v : V) (entries : List (K × V)) → AllByRecursion (λ entry. P entry.1) entries → value_at same key entries ≡ Some v → P v
All-value_at P same key v [] all e = absurd (cc)
All-value_at P same key v (entry ∷ entries) all e =
    cond_both (same key entry.0) _ _ (λ found. found ≡ Some v → P v) (λ _ here. let is_v : entry.1 ≡ v = cc in subst P is_v all.0)
    (λ _ there. All-value_at P same key v entries all.1 there) e

-- the front's positions are of the deliveries
pub All-front_of : (m n : ℕ) (s : SubName) (from : ℕ) (deliveries : List Delivery) → AllByRecursion (λ d. d.position < m) deliveries → AllByRecursion (λ position. position < m) (front_of n s from deliveries)
All-front_of m zero s from deliveries all = tt
All-front_of m (suc n) s from [] all = tt
All-front_of m (suc n) s from (d ∷ deliveries) all =
    cond_both (same_sub s d.sub && nat_le from d.position) _ _ (AllByRecursion (λ position. position < m))
    (λ _. (all.0, All-front_of m n s (suc d.position) deliveries all.1)) (λ _. tt)

-- the positions of a turn are in the log
pub turn-within : (p : PlainPartition) (g : GrainId) (st : Grain) (n : ℕ) (s : SubName) (from : ℕ) → IsWithinLimits p → value_at same_grain g p.grains ≡ Some st → AllByRecursion (λ position. position < length p.log) (front_of n s from st.mailbox)
turn-within p g st n s from limits e =
    All-front_of (length p.log) n s from st.mailbox
    (All-value_at (λ st. AllByRecursion (λ d. d.position < length p.log) st.mailbox) same_grain g st p.grains limits.waiting e)
