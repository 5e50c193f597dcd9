-- Begin keeps the invariant, and its turn goes on where what was handled ends.
use Rattle.stream_laws.proofs.Prelude.{◌≡◌, ◌∙◌, ap, sym, subst, refl, ℕ, suc, ◌≤◌, nat_lt, ◌==◌, true, not, List, [], ◌∷◌, length, take, drop, filter, Option, Some, None, is_some, arith, cond_both, cond-true, cond-false, eq-eqb, eqb-true, ltb-true, ltb-false, ne_eqb, not-false, true≢false, All-drop, same_sub-refl, none_from_is_some, turn_size, is_owed, same_sub, past, Event, GrainId, SubName, TURN_EVENTS, owed_of, events_at, grain_at, is_spent, running_in, sub_at, waiting_in, begun, front_of, Delivery, Grain, PlainPartition, RunningTurn, Subscription}
use Rattle.stream_model.specs.declared.op.Op.TheVariants as op
use Rattle.stream_model.specs.declared.reply.Reply.TheVariants as reply
use Rattle.stream_model.specs.Turns.{begin, begin_for, begin_front, begin_in, begin_turn}
use Rattle.stream_laws.proofs.BeginFront.{Fits-dropped, IsFront, is_front}
use Rattle.stream_laws.proofs.Deliveries.{front-length, front-next, front-other, front-rest, front-some}
use Rattle.stream_laws.proofs.EventLemmas.{length-events_at, owed-next}
use Rattle.stream_laws.proofs.FitsOne.{Fits-grain}
use Rattle.stream_laws.proofs.Invariant.{Fits, IsBoxed, IsRunning, Kept, NumbersFit, SubFits, marks_of}
use Rattle.stream_laws.proofs.Marks.{IsInTurn, IsServed}
use Rattle.stream_laws.proofs.OneChanged.{FitsHere, IsCarried, IsTurnAlike}
use Rattle.stream_laws.proofs.Summary.{Promise, Summary, after, owed}

-- what is said after a turn was handed out
abbrev with_turn : Summary → GrainId → ℕ → SubName → ℕ → ℕ → List Event → ℕ → Summary
with_turn t g max_events s activation turn events note = after t (op.Begin g max_events) (reply.Turn s activation turn events note)

module _ (t : Summary) (p : PlainPartition) (g : GrainId) (max_events n : ℕ) (d : Delivery) (deliveries : List Delivery) (r : Subscription)
    (front : IsFront t p g d deliveries r) (some : 1 ≤ n) (bound : n ≤ TURN_EVENTS) (next : past r.handled ≤ d.position) (fits : Fits t p) where
  abbrev st : Grain
  st = grain_at p g

  abbrev positions : List ℕ
  positions = front_of n d.sub d.position (grain_at p g).mailbox

  abbrev run : RunningTurn
  run = record { sub = d.sub; turn = suc p.turns; positions = positions }

  abbrev now : Grain
  now = record (grain_at p g) { mailbox = drop (length positions) (grain_at p g).mailbox; running = Some run }

  abbrev told : Summary
  told = with_turn t g max_events d.sub (grain_at p g).activation (suc p.turns) (events_at p.log positions) r.note

  in_turn : IsInTurn (marks_of r.stream r.start p.log) r.handled positions
  in_turn = record {
    first = front.fits.in_turn.first;
    next = front-next (marks_of r.stream r.start p.log) n d.sub (past r.handled) d.position (grain_at p g).mailbox next (front.fits.served front.is_open).covering;
  }

  some_positions : 1 ≤ length positions
  some_positions = subst (λ ds. 1 ≤ length (front_of n d.sub d.position ds)) (sym front.mailbox) (front-some n d deliveries some)

  few_positions : length positions ≤ TURN_EVENTS
  few_positions = omega (arith, front-length n d.sub d.position (grain_at p g).mailbox, bound)

  own_positions : running_in d.sub (Some run) ≡ positions
  own_positions = cond-true (same_sub d.sub d.sub) positions [] (same_sub-refl d.sub)

  fits_sub : SubFits told p.log p.low d.sub r (running_in d.sub (Some run)) (waiting_in d.sub (drop (length positions) (grain_at p g).mailbox))
  fits_sub =
      subst (λ ps. SubFits told p.log p.low d.sub r ps (waiting_in d.sub (drop (length positions) (grain_at p g).mailbox))) (sym own_positions)
      (record {
        binding = front.fits.binding;
        handled = front.fits.handled;
        closed = front.fits.closed;
        note = front.fits.note;
        in_turn = in_turn;
        served = λ is_open.
            subst (λ way. IsServed (marks_of r.stream r.start p.log) r.handled way r.resume r.cursor p.low)
            (sym (front-rest n d.sub d.position (grain_at p g).mailbox))
            (front.fits.served is_open);
      })

  -- the turns with other numbers
  alike_turn : (k : ℕ) → k ≤ p.turns → IsTurnAlike t told k
  alike_turn k le =
      let other = ne_eqb (suc p.turns) k (λ same. omega arith) in
      record {
        events = cond-false (suc p.turns == k) (events_at p.log positions) (t.turn k) other;
        begun = cond-false (suc p.turns == k) (suc (t.begun k)) (t.begun k) other;
        committed = refl;
      }

  this_turn : (p' : PlainPartition) → IsCarried p p' → p'.log ≡ p.log → p'.turns ≡ suc p.turns → IsRunning told p' g run
  this_turn p' carried is_log is_turns =
      let same = eq-eqb (suc p.turns) (suc p.turns) refl in
      let record_now = carried d.sub r front.found in
      record {
        record_of = record_now.0;
        found = record_now.1;
        grain = record_now.3 ∙ front.grain;
        events = cond-true (suc p.turns == suc p.turns) (events_at p.log positions) (t.turn (suc p.turns)) same ∙ ap (λ log. events_at log positions) (sym is_log);
        begun = cond-true (suc p.turns == suc p.turns) (suc (t.begun (suc p.turns))) (t.begun (suc p.turns)) same
            ∙ ap suc (fits.numbers.unused (suc p.turns) (omega arith));
        committed = fits.numbers.uncommitted (suc p.turns) (omega arith);
        number = omega (arith, is_turns);
        some = some_positions;
        bound = few_positions;
      }

  fits_here : (p' : PlainPartition) → IsCarried p p' → p'.log ≡ p.log → p'.turns ≡ suc p.turns → FitsHere t told p p' g now
  fits_here p' carried is_log is_turns =
      record {
        boxed = All-drop (IsBoxed p g) (length positions) (grain_at p g).mailbox (fits.grains.each g).boxed;
        running = λ other is_other.
            let same : run ≡ other = cc in subst (IsRunning told p' g) same (this_turn p' carried is_log is_turns);
        idle = λ asleep. absurd (true≢false (sym front.active ∙ asleep));
        alike = λ h different other is_other. alike_turn other.turn ((fits.grains.each h).running other is_other).number;
        apart = λ this is_this h different other is_other equal.
            let same : run ≡ this = cc in
            let number = ((fits.grains.each h).running other is_other).number in
            omega (arith, number, equal, ap (λ (x : RunningTurn). x.turn) same);
      }

  numbers : NumbersFit told (begun p g st d.sub positions)
  numbers =
      record {
        unused = λ k above. cond-false (suc p.turns == k) (suc (t.begun k)) (t.begun k) (ne_eqb (suc p.turns) k (λ same. omega arith)) ∙ fits.numbers.unused k (omega arith);
        uncommitted = λ k above. fits.numbers.uncommitted k (omega arith);
        begun = λ k. cond_both (suc p.turns == k) (suc (t.begun k)) (t.begun k) (λ m. m ≤ 1)
            (λ same. omega (arith, fits.numbers.unused k (omega (arith, eqb-true (suc p.turns) k same))))
            (λ _. fits.numbers.begun k);
        committed = fits.numbers.committed;
      }

  promised : Promise t (op.Begin g max_events) (reply.Turn d.sub (grain_at p g).activation (suc p.turns) (events_at p.log positions) r.note)
  promised =
      let size = length-events_at p.log positions in
      let is_owed_of : filter (λ event. is_owed r.stream r.start event) p.log ≡ owed t d.sub
      = ap (filter (λ event. is_owed r.stream r.start event)) fits.log.log ∙ ap (owed_of t.events) (sym front.fits.binding) in (
        omega (arith, size, some_positions),
        omega (arith, size, few_positions),
        owed-next (λ event. is_owed r.stream r.start event) p.log r.handled positions in_turn
            ∙ ap (λ done. take (length (events_at p.log positions)) (drop (length done) (filter (λ event. is_owed r.stream r.start event) p.log))) (sym front.fits.handled)
            ∙ ap (λ events. take (length (events_at p.log positions)) (drop (length (t.handled d.sub)) events)) is_owed_of,
        sym front.fits.note,
        fits.numbers.unused (suc p.turns) (omega arith),
      )

  kept-turn : Kept t (op.Begin g max_events) (begin_turn p g (grain_at p g) d.sub r.note positions)
  unfolding begin_turn
  kept-turn = (
    Fits-grain t told p d.sub r g now (suc p.rises) (suc p.turns) front.found front.grain (omega arith)
        (record { events = refl; batches = refl; low = refl; binding = refl; others = λ x other. record { binding = refl; handled = refl; closed = refl; note = refl } })
        (λ x other. cond-false (same_sub x d.sub) positions [] other ∙ ap (running_in x) (sym front.running))
        (λ x other. front-other x n d.sub d.position (grain_at p g).mailbox other)
        fits_here
        numbers
        fits_sub
        fits,
    promised,
  )

kept-begin_for : (t : Summary) (p : PlainPartition) (g : GrainId) (max_events n : ℕ) (d : Delivery) (deliveries : List Delivery) (found : Option Subscription)
    → 1 ≤ n → n ≤ TURN_EVENTS → (grain_at p g).active ≡ true → (grain_at p g).running ≡ None → (grain_at p g).mailbox ≡ d ∷ deliveries → sub_at p d.sub ≡ found
    → Fits t p → Kept t (op.Begin g max_events) (begin_for p g n (grain_at p g) d deliveries found)
unfolding begin_for
kept-begin_for t p g max_events n d deliveries None some bound active idle mailbox is_found fits = (fits, tt)
kept-begin_for t p g max_events n d deliveries (Some r) some bound active idle mailbox is_found fits =
    let front = is_front t p g d deliveries r active idle mailbox is_found fits in
    cond_both (nat_lt d.position (past r.handled)) _ _ (Kept t (op.Begin g max_events))
    (λ below. (Fits-dropped t p g d deliveries r front (ltb-true d.position (past r.handled) below) fits, tt))
    (λ next. cond_both (is_spent p) _ _ (Kept t (op.Begin g max_events)) (λ _. (fits, tt))
    (λ _. kept-turn t p g max_events n d deliveries r front some bound (ltb-false d.position (past r.handled) next) fits))

kept-begin_front : (t : Summary) (p : PlainPartition) (g : GrainId) (max_events n : ℕ) (mailbox : List Delivery)
    → 1 ≤ n → n ≤ TURN_EVENTS → (grain_at p g).active ≡ true → (grain_at p g).running ≡ None → (grain_at p g).mailbox ≡ mailbox
    → Fits t p → Kept t (op.Begin g max_events) (begin_front p g n (grain_at p g) mailbox)
unfolding begin_front
kept-begin_front t p g max_events n [] some bound active idle is_mailbox fits = (fits, tt)
kept-begin_front t p g max_events n (d ∷ deliveries) some bound active idle is_mailbox fits =
    kept-begin_for t p g max_events n d deliveries (sub_at p d.sub) some bound active idle is_mailbox refl fits

pub kept-begin : (t : Summary) (p : PlainPartition) (g : GrainId) (max_events : ℕ) → Fits t p → Kept t (op.Begin g max_events) (begin p g max_events)
unfolding begin begin_in
kept-begin t p g max_events fits =
    let size : (1 ≤ turn_size max_events) × (turn_size max_events ≤ TURN_EVENTS) = (omega arith, omega arith) in
    cond_both (is_some (grain_at p g).running) _ _ (Kept t (op.Begin g max_events)) (λ _. (fits, tt))
    (λ idle. cond_both (not (grain_at p g).active) _ _ (Kept t (op.Begin g max_events)) (λ _. (fits, tt))
    (λ active. kept-begin_front t p g max_events (turn_size max_events) (grain_at p g).mailbox size.0 size.1
    (not-false (grain_at p g).active active) (none_from_is_some (grain_at p g).running idle) refl fits))
