-- The law on the front of a mailbox that a turn takes, from the definition of `begin`.
use Rattle.stream_laws.proofs.Prelude.{◌≡◌, ℕ, zero, suc, ◌≤◌, ◌<◌, true, ◌&&◌, not, nat_le, nat_lt, List, [], ◌∷◌, length, map, take, All, AllPairs, Option, Some, None, is_some, refl, sym, ap, subst, ◌∙◌, arith, and_from, and_parts, cond_both, le-leb, leb-true, All-cons, All-head, All-nil, All-tail, All-weaker, AllPairs-cons, same_sub-equal, same_sub-refl, turn_size, same_sub, past, Event, GrainId, SubName, events_at, grain_at, is_spent, sub_at, Reply, front_of, Delivery, Grain, PlainPartition, Subscription, Turn}
use Rattle.stream_model.specs.Step.{step}
use Rattle.stream_model.specs.Turns.{begin, begin_for, begin_front, begin_in, begin_turn}
use Rattle.stream_laws.specs.Laws.{IsGreatest, IsTurnFront, TurnsAreLongest}
use Rattle.stream_laws.proofs.EventLemmas.{length-events_at}

abbrev IsOf : SubName → Delivery → Type 0
IsOf s d = d.sub ≡ s

abbrev IsBehind : Delivery → Delivery → Type 0
IsBehind earlier later = earlier.position < later.position

abbrev IsFrom : ℕ → Delivery → Type 0
IsFrom from d = from ≤ d.position

AllPairs-nil : {X : Type 0} (R : X → X → Type 0) → AllPairs R []
AllPairs-nil R i j d less within = absurd (omega arith)

AllPairs-head : {X : Type 0} (R : X → X → Type 0) (x : X) (xs : List X) → AllPairs R (x ∷ xs) → All (R x) xs
AllPairs-head R x xs all k d within = all 0 (suc k) d (omega arith) (omega arith)

AllPairs-tail : {X : Type 0} (R : X → X → Type 0) (x : X) (xs : List X) → AllPairs R (x ∷ xs) → AllPairs R xs
AllPairs-tail R x xs all i j d less within = all (suc i) (suc j) d (omega arith) (omega arith)

-- so many deliveries that may be one turn, at or past a position
record IsFrontFrom (deliveries : List Delivery) (most : ℕ) (s : SubName) (from : ℕ) (n : ℕ) : Type 0 where
  front : IsTurnFront deliveries most s n
  above : All (IsFrom from) (take n deliveries)

none-from : (deliveries : List Delivery) (most : ℕ) (s : SubName) (from : ℕ) → IsFrontFrom deliveries most s from 0
none-from deliveries most s from = record {
  front = record { within = omega arith; waiting = omega arith; own = All-nil (IsOf s); rising = AllPairs-nil IsBehind };
  above = All-nil (IsFrom from);
}

-- one more before those that are behind it
more-from : (d : Delivery) (deliveries : List Delivery) (most : ℕ) (s : SubName) (from n : ℕ) → d.sub ≡ s → from ≤ d.position → IsFrontFrom deliveries most s (suc d.position) n → IsFrontFrom (d ∷ deliveries) (suc most) s from (suc n)
more-from d deliveries most s from n own above rest = record {
  front = record {
    within = omega (arith, rest.front.within);
    waiting = omega (arith, rest.front.waiting);
    own = All-cons (IsOf s) d (take n deliveries) own rest.front.own;
    rising = AllPairs-cons IsBehind d (take n deliveries) (All-weaker (IsFrom (suc d.position)) (IsBehind d) (λ other past_d. omega (arith, past_d)) (take n deliveries) rest.above) rest.front.rising;
  };
  above = All-cons (IsFrom from) d (take n deliveries) above (All-weaker (IsFrom (suc d.position)) (IsFrom from) (λ other past_d. omega (arith, past_d)) (take n deliveries) rest.above);
}

-- and without the first
less-from : (d : Delivery) (deliveries : List Delivery) (most : ℕ) (s : SubName) (from n : ℕ) → IsFrontFrom (d ∷ deliveries) (suc most) s from (suc n) → IsFrontFrom deliveries most s (suc d.position) n
less-from d deliveries most s from n all = record {
  front = record {
    within = omega (arith, all.front.within);
    waiting = omega (arith, all.front.waiting);
    own = All-tail (IsOf s) d (take n deliveries) all.front.own;
    rising = AllPairs-tail IsBehind d (take n deliveries) all.front.rising;
  };
  above = All-weaker (IsBehind d) (IsFrom (suc d.position)) (λ other behind_d. omega (arith, behind_d)) (take n deliveries) (AllPairs-head IsBehind d (take n deliveries) all.front.rising);
}

-- these are the positions of so many deliveries that may be one turn
record IsTaken (deliveries : List Delivery) (most : ℕ) (s : SubName) (from : ℕ) (positions : List ℕ) : Type 0 where
  read : positions ≡ map (λ (d : Delivery). d.position) (take (length positions) deliveries)
  front : IsFrontFrom deliveries most s from (length positions)

nothing-taken : (deliveries : List Delivery) (most : ℕ) (s : SubName) (from : ℕ) → IsTaken deliveries most s from []
nothing-taken deliveries most s from = record { read = refl; front = none-from deliveries most s from }

front_of-taken : (most : ℕ) (s : SubName) (from : ℕ) (deliveries : List Delivery) → IsTaken deliveries most s from (front_of most s from deliveries)
front_of-taken zero s from deliveries = nothing-taken deliveries zero s from
front_of-taken (suc most) s from [] = nothing-taken [] (suc most) s from
front_of-taken (suc most) s from (d ∷ deliveries) =
    cond_both (same_sub s d.sub && nat_le from d.position) (d.position ∷ front_of most s (suc d.position) deliveries) [] (IsTaken (d ∷ deliveries) (suc most) s from)
    (λ goes_on.
    let parts = and_parts (same_sub s d.sub) (nat_le from d.position) goes_on in
    let rest = front_of-taken most s (suc d.position) deliveries in
    record {
      read = ap (λ positions. d.position ∷ positions) rest.read;
      front = more-from d deliveries most s from (length (front_of most s (suc d.position) deliveries))
          (sym (same_sub-equal s d.sub parts.0)) (leb-true from d.position parts.1) rest.front;
    })
    (λ stops. nothing-taken (d ∷ deliveries) (suc most) s from)

-- no more deliveries than those may be one turn
front_of-greatest : (most : ℕ) (s : SubName) (from : ℕ) (deliveries : List Delivery) (m : ℕ) → IsFrontFrom deliveries most s from m → m ≤ length (front_of most s from deliveries)
front_of-greatest zero s from deliveries m all = omega (arith, all.front.within)
front_of-greatest (suc most) s from [] m all = omega (arith, all.front.waiting)
front_of-greatest (suc most) s from (d ∷ deliveries) zero all = omega arith
front_of-greatest (suc most) s from (d ∷ deliveries) (suc m) all =
    let own : d.sub ≡ s = All-head (IsOf s) d (take m deliveries) all.front.own in
    let above : from ≤ d.position = All-head (IsFrom from) d (take m deliveries) all.above in
    let goes_on : (same_sub s d.sub && nat_le from d.position) ≡ true
    = and_from (same_sub s d.sub) (nat_le from d.position) (subst (λ x. same_sub s x ≡ true) (sym own) (same_sub-refl s)) (le-leb from d.position above) in
    let rest = front_of-greatest most s (suc d.position) deliveries m (less-from d deliveries most s from m all) in
    rw goes_on (omega (arith, rest))

-- from its first position on, a front that may be one turn is at or past that
from-first : (d : Delivery) (deliveries : List Delivery) (most : ℕ) (s : SubName) (m : ℕ) → IsTurnFront (d ∷ deliveries) most s m → IsFrontFrom (d ∷ deliveries) most s d.position m
from-first d deliveries most s zero front = record { front = front; above = All-nil (IsFrom d.position) }
from-first d deliveries most s (suc m) front = record {
  front = front;
  above = All-cons (IsFrom d.position) d (take m deliveries) (omega arith) (All-weaker (IsBehind d) (IsFrom d.position) (λ other behind_d. omega (arith, behind_d)) (take m deliveries) (AllPairs-head IsBehind d (take m deliveries) front.rising));
}

-- the events of a turn are those of the longest front of the mailbox
abbrev IsLongest : PlainPartition → List Delivery → ℕ → SubName → List Event → Type 0
IsLongest p mailbox most s events =
    (events ≡ events_at p.log (map (λ (d : Delivery). d.position) (take (length events) mailbox)))
    × IsGreatest (IsTurnFront mailbox most s) (length events)

longest-of : (p : PlainPartition) (d : Delivery) (deliveries : List Delivery) (most : ℕ) (positions : List ℕ)
    → positions ≡ front_of most d.sub d.position (d ∷ deliveries)
    → IsLongest p (d ∷ deliveries) most d.sub (events_at p.log positions)
longest-of p d deliveries most positions is =
    let taken : IsTaken (d ∷ deliveries) most d.sub d.position positions
    = subst (IsTaken (d ∷ deliveries) most d.sub d.position) (sym is) (front_of-taken most d.sub d.position (d ∷ deliveries)) in
    let size : length positions ≡ length (events_at p.log positions) = sym (length-events_at p.log positions) in (
      ap (events_at p.log) (taken.read ∙ ap (λ n. map (λ (d : Delivery). d.position) (take n (d ∷ deliveries))) size),
      (
        subst (IsTurnFront (d ∷ deliveries) most d.sub) size taken.front.front,
        λ m front.
            let bound : m ≤ length (front_of most d.sub d.position (d ∷ deliveries))
            = front_of-greatest most d.sub d.position (d ∷ deliveries) m (from-first d deliveries most d.sub m front) in
            omega (arith, bound, ap length is, size),
      ),
    )

-- where a step answers a turn, it is the longest
abbrev Answers : PlainPartition → List Delivery → ℕ → PlainPartition × Reply → Type 0
Answers p mailbox most out =
    (s : SubName) (activation turn note : ℕ) (events : List Event) → out.1 ≡ Turn s activation turn events note → IsLongest p mailbox most s events

longest-begin_for : (p : PlainPartition) (g : GrainId) (most : ℕ) (st : Grain) (d : Delivery) (deliveries : List Delivery) (found : Option Subscription)
    → st.mailbox ≡ d ∷ deliveries → Answers p (d ∷ deliveries) most (begin_for p g most st d deliveries found)
unfolding begin_for begin_turn
longest-begin_for p g most st d deliveries None mailbox = λ s activation turn note events told. absurd (cc)
longest-begin_for p g most st d deliveries (Some r) mailbox =
    cond_both (nat_lt d.position (past r.handled)) _ _ (Answers p (d ∷ deliveries) most) (λ _ s activation turn note events told. absurd (cc))
    (λ _. cond_both (is_spent p) _ _ (Answers p (d ∷ deliveries) most) (λ _ s activation turn note events told. absurd (cc))
    (λ _ s activation turn note events told.
    let of_sub : d.sub ≡ s = cc in
    let of_events : events_at p.log (front_of most d.sub d.position st.mailbox) ≡ events = cc in
    subst (λ x. IsLongest p (d ∷ deliveries) most x events) of_sub
    (subst (IsLongest p (d ∷ deliveries) most d.sub) of_events
    (longest-of p d deliveries most (front_of most d.sub d.position st.mailbox) (ap (front_of most d.sub d.position) mailbox)))))

longest-begin_front : (p : PlainPartition) (g : GrainId) (most : ℕ) (st : Grain) (mailbox : List Delivery) → st.mailbox ≡ mailbox → Answers p mailbox most (begin_front p g most st mailbox)
unfolding begin_front
longest-begin_front p g most st [] is = λ s activation turn note events told. absurd (cc)
longest-begin_front p g most st (d ∷ deliveries) is = longest-begin_for p g most st d deliveries (sub_at p d.sub) is

longest-begin : (p : PlainPartition) (g : GrainId) (max_events : ℕ) → Answers p (grain_at p g).mailbox (turn_size max_events) (begin p g max_events)
unfolding begin begin_in
longest-begin p g max_events =
    let st = grain_at p g in
    cond_both (is_some st.running) _ _ (Answers p st.mailbox (turn_size max_events)) (λ _ s activation turn note events told. absurd (cc))
    (λ _. cond_both (not st.active) _ _ (Answers p st.mailbox (turn_size max_events)) (λ _ s activation turn note events told. absurd (cc))
    (λ _. longest-begin_front p g (turn_size max_events) st st.mailbox refl))

pub turns-longest : TurnsAreLongest
unfolding step
turns-longest p grain max_events s activation turn note events told = longest-begin p grain max_events s activation turn note events told
