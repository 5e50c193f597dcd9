-- The first part of a round empties the mailboxes.
use Rattle.stream_laws.proofs.Prelude.{◌≡◌, ℕ, zero, suc, ◌≤◌, nat_lt, true, List, [], ◌∷◌, length, Option, Some, None, unwrap_or, refl, sym, ap, arith, ◌∙◌, both_ways, true_from_ne_false, grain_equality, grain_lt, same_grain, keys_where, value_at, GrainId, all_waiting, empty_mailboxes, least_waiting, is_waiting, grain_at, new_grain, Delivery, Grain, PlainPartition}
use Rattle.stream_model.specs.Draining.{take_turn, take_turns}
use Rattle.stream_laws.proofs.DrainBase.{IsSound}
use Rattle.stream_laws.proofs.DrainBegin.{ready_grain}
use Rattle.stream_laws.proofs.IdleGrains.{IsEmptied, emptied-of}
use Rattle.stream_laws.proofs.KeyLists.{All-keys_where, each-entry, least-none, least-of}
use Rattle.stream_laws.proofs.DrainRule.{Meets, Tally, meets-and_then, meets-weaken}
use Rattle.stream_laws.proofs.DrainSums.{waiting-set}
use Rattle.stream_laws.proofs.DrainTurn.{TurnedSound, meets-take_turn}
use Rattle.stream_laws.proofs.Summary.{Summary}

-- a grain of the list for which something waits
abbrev WaitsIn : PlainPartition → GrainId → Type 0
WaitsIn p g = (st : Grain) × (value_at same_grain g p.grains ≡ Some st) × (is_waiting st ≡ true)

-- the least for which something waits
waits-in : (cache : ℕ) (t0 : Summary) (t : Tally) (p : PlainPartition) (g : GrainId) → IsSound cache t0 t p → least_waiting p ≡ Some g → WaitsIn p g
waits-in cache t0 t p g sound is =
    least-of (WaitsIn p) grain_lt (keys_where is_waiting p.grains) g
    (All-keys_where (WaitsIn p) is_waiting p.grains (each-entry same_grain grain_equality (λ (g : GrainId) (st : Grain). is_waiting st ≡ true → WaitsIn p g) p.grains sound.told.steady.grains (λ g st found waits. (st, found, waits))))
    is

-- it is active, and its first delivery can be taken
pub record IsReady (p : PlainPartition) (g : GrainId) : Type 0 where
  pub activation : ℕ
  pub first : Delivery
  pub rest : List Delivery
  pub found : value_at same_grain g p.grains ≡ Some (ready_grain activation first rest)

ready-with : (cache : ℕ) (t0 : Summary) (t : Tally) (p : PlainPartition) (g : GrainId) (st : Grain) (mailbox : List Delivery) → IsSound cache t0 t p → value_at same_grain g p.grains ≡ Some st → st.mailbox ≡ mailbox → nat_lt 0 (length mailbox) ≡ true → IsReady p g
ready-with cache t0 t p g st [] sound found is waits = absurd (both_ways (nat_lt 0 0) refl waits)
ready-with cache t0 t p g st (d ∷ deliveries) sound found is waits =
    let at : grain_at p g ≡ st = ap (λ (o : Option Grain). unwrap_or o new_grain) found in
    let idle : st.running ≡ None = ap (λ (st : Grain). st.running) (sym at) ∙ sound.idle g in
    let fits = (sound.told.fits.grains.each g).idle in
    let active : st.active ≡ true = true_from_ne_false st.active (λ asleep.
    let empty : (grain_at p g).mailbox ≡ [] = (fits (ap (λ (st : Grain). st.active) at ∙ asleep)).0 in
    let box : st.mailbox ≡ [] = ap (λ (st : Grain). st.mailbox) (sym at) ∙ empty in
    cc) in
    let same : st ≡ ready_grain st.activation d deliveries = λ i. record { activation = st.activation; active = active i; mailbox = is i; running = idle i } in
    record { activation = st.activation; first = d; rest = deliveries; found = found ∙ ap {B = Option Grain} Some same }

is-ready : (cache : ℕ) (t0 : Summary) (t : Tally) (p : PlainPartition) (g : GrainId) → IsSound cache t0 t p → least_waiting p ≡ Some g → IsReady p g
is-ready cache t0 t p g sound is =
    let waits = waits-in cache t0 t p g sound is in
    ready-with cache t0 t p g waits.0 waits.0.mailbox sound waits.1 refl waits.2

-- nothing waits, and the cache is as it was
abbrev pub EmptiedSound : ℕ → Summary → PlainPartition → Tally → PlainPartition → Type 0
EmptiedSound cache t0 p u q = IsSound cache t0 u q × IsEmptied q × (q.log ≡ p.log) × (q.high ≡ p.high)

meets-take_turns : (cache : ℕ) (t0 : Summary) (n : ℕ) (t : Tally) (p : PlainPartition) (found : Option GrainId) → IsSound cache t0 t p → least_waiting p ≡ found → all_waiting p ≤ n → Meets (EmptiedSound cache t0 p) t (take_turns n p found)
unfolding take_turns
meets-take_turns cache t0 n t p None sound is enough = (sound, emptied-of p (least-none grain_lt (keys_where is_waiting p.grains) is), refl, refl)
meets-take_turns cache t0 zero t p (Some g) sound is enough =
    let ready = is-ready cache t0 t p g sound is in
    let st = ready_grain ready.activation ready.first ready.rest in
    let count = waiting-set g st (record st { mailbox = ready.rest }) p.grains ready.found in
    absurd (omega (arith, count, enough))
meets-take_turns cache t0 (suc n) t p (Some g) sound is enough =
    let ready = is-ready cache t0 t p g sound is in
    meets-and_then (TurnedSound cache t0 p g ready.first ready.rest) (EmptiedSound cache t0 p) t (take_turn g p) (λ q. take_turns n q (least_waiting q))
    (meets-take_turn cache t0 t p g ready.activation ready.first ready.rest sound ready.found)
    (λ u q turned. meets-weaken (EmptiedSound cache t0 q) (EmptiedSound cache t0 p) u (take_turns n q (least_waiting q))
    (λ v r after. (after.0, after.1, after.2 ∙ turned.1.log, after.3 ∙ turned.1.high))
    (meets-take_turns cache t0 n u q (least_waiting q) turned.0 refl (omega (arith, turned.1.waiting, enough))))

pub meets-empty_mailboxes : (cache : ℕ) (t0 : Summary) (t : Tally) (p : PlainPartition) → IsSound cache t0 t p → Meets (EmptiedSound cache t0 p) t (empty_mailboxes p)
meets-empty_mailboxes cache t0 t p sound = meets-take_turns cache t0 (all_waiting p) t p (least_waiting p) sound refl (omega arith)
