-- Where a drain begins, and what holds where it has ended well.
use Rattle.stream_laws.proofs.Prelude.{◌≡◌, ◌≢◌, ℕ, ◌-◌, ◌≤◌, ◌&&◌, nat_lt, Bool, true, false, List, [], ◌++◌, length, reverse, Option, Some, None, is_some, if◌then◌else◌, map, refl, sym, ap, ap₂, arith, ◌∙◌, le-ltb, sub_equality, is_owed, grain_lt, same_sub, sub_lt, keys_where, least, or_else, past, Event, GrainId, SubName, Stop, AtTooMany, AtSpent, Astray, commits, drain_end, drain_where, behind, deliverable, is_running, is_waiting, quiet_reply, running, waiting, Entry, owed_of, next_position, sub_at, Stands, Limits, Delivery, Grain, PlainPartition, RunningTurn, Subscription, Pending, IsQuiet}
use Rattle.std.proofs.Common.{append-nil}
use Rattle.stream_model.specs.declared.drain_end.DrainEnd.TheVariants as ending
use Rattle.stream_model.specs.declared.reply.Pending.TheVariants as pending
use Rattle.stream_model.specs.Draining.{drain, drain_all}
use Rattle.stream_laws.specs.DrainLaws.{DrainEnds, DrainedIsQuiet, DrainedTurns, left, sum_open}
use Rattle.stream_model.specs.Looks.{quiet}
use Rattle.stream_laws.proofs.DrainBase.{IsSound, handled_since}
use Rattle.stream_laws.proofs.DrainDeliver.{next-none}
use Rattle.stream_laws.proofs.IdleGrains.{IsIdle, each-found, idle-of}
use Rattle.stream_laws.proofs.KeyLists.{each-entry, keys_where-empty, least-none}
use Rattle.stream_laws.proofs.DrainPull.{Finished, meets-drain_all}
use Rattle.stream_laws.proofs.DrainRule.{EndsWith, Meets, Tally, tallied, tallied-turns}
use Rattle.stream_laws.proofs.DrainSums.{sum_open-same, sum_open-zero}
use Rattle.stream_laws.proofs.EventLemmas.{filter-drop-none}
use Rattle.stream_laws.proofs.Invariant.{Fits}
use Rattle.stream_laws.proofs.KeptStep.{kept-step}
use Rattle.stream_laws.proofs.LawsOfEvents.{handled-record}
use Rattle.stream_laws.proofs.Legal.{fits-stands}
use Rattle.stream_laws.proofs.Marks.{IsClear}
use Rattle.stream_laws.proofs.Summary.{Summary, owed, summary}
use Rattle.stream_laws.proofs.UniqueSteps.{IsSteady, steady-legal, steady-own}

-- ---- the beginning

abbrev start : Summary → Tally
start t0 = record { said = t0; turns = 0 }

start-sound : (cache : ℕ) (t0 : Summary) (p : PlainPartition) → Fits t0 p → IsSteady (cache, p.limits) p → IsIdle p → IsSound cache t0 (start t0) p
start-sound cache t0 p fits steady idle =
    record {
      told = record {
        fits = fits;
        steady = steady;
        events = refl;
        binding = λ s. refl;
        longer = λ s. omega arith;
        turns = sum_open-zero (handled_since t0 t0) p.subs (λ s. omega arith);
      };
      idle = idle;
    }

-- what a drain that began where no turn ran meets
drained : (blocks : ℕ) (limits : Limits) (history : List Entry) (p : PlainPartition) → 1 ≤ blocks → Stands blocks limits history p → least grain_lt (keys_where is_running p.grains) ≡ None
    → Meets (Finished blocks (summary (reverse history))) (start (summary (reverse history))) (drain_all p)
drained blocks limits history p some stands idle =
    let t0 = summary (reverse history) in
    meets-drain_all blocks some t0 (start t0) p (start-sound blocks t0 p (fits-stands kept-step blocks limits history p stands) (steady-own (blocks, limits) p (steady-legal blocks limits history p stands)) (idle-of p (least-none grain_lt (keys_where is_running p.grains) idle)))

-- ---- the end

ends-known : (stop : Option Stop) (P : Type 0) (turns : ℕ) → EndsWith stop P → drain_end stop turns ≢ None
ends-known None P turns ends none = absurd (cc)
ends-known (Some AtTooMany) P turns ends none = absurd (cc)
ends-known (Some AtSpent) P turns ends none = absurd (cc)
ends-known (Some Astray) P turns ends none = ends

ends-drained : (stop : Option Stop) (P : Type 0) (turns n : ℕ) → EndsWith stop P → drain_end stop turns ≡ Some (ending.Drained n) → P × (n ≡ turns)
ends-drained None P turns n ends is = (ends, cc)
ends-drained (Some AtTooMany) P turns n ends is = absurd (cc)
ends-drained (Some AtSpent) P turns n ends is = absurd (cc)
ends-drained (Some Astray) P turns n ends is = absurd ends

ends-where : (blocks : ℕ) (limits : Limits) (history : List Entry) (p : PlainPartition) → 1 ≤ blocks → Stands blocks limits history p
    → (g : Option GrainId) → least grain_lt (keys_where is_running p.grains) ≡ g → (drain_where p g).1 ≢ None
ends-where blocks limits history p some stands None idle =
    let t0 = summary (reverse history) in
    let m = drain_all p in
    ends-known m.stop (Finished blocks t0 (tallied (start t0) m.entries) m.now) (commits m.entries) (drained blocks limits history p some stands idle)
ends-where blocks limits history p some stands (Some g) runs = λ none. absurd (cc)

pub drain-ends : DrainEnds
unfolding drain
drain-ends blocks limits history p some stands = ends-where blocks limits history p some stands (least grain_lt (keys_where is_running p.grains)) refl

-- what holds after Drained
abbrev HoldsDrained : ℕ → List Entry → ℕ → PlainPartition → Type 0
HoldsDrained blocks history n q = (u : Tally) × Finished blocks (summary (reverse history)) u q × (u.turns ≡ n)

drained-where : (blocks : ℕ) (limits : Limits) (history : List Entry) (p : PlainPartition) → 1 ≤ blocks → Stands blocks limits history p → (n : ℕ)
    → (g : Option GrainId) → least grain_lt (keys_where is_running p.grains) ≡ g → (drain_where p g).1 ≡ Some (ending.Drained n) → HoldsDrained blocks history n (drain_where p g).0.now
drained-where blocks limits history p some stands n None idle is =
    let t0 = summary (reverse history) in
    let m = drain_all p in
    let ends = ends-drained m.stop (Finished blocks t0 (tallied (start t0) m.entries) m.now) (commits m.entries) n (drained blocks limits history p some stands idle) is in
    (tallied (start t0) m.entries, ends.0, omega (arith, tallied-turns (start t0) m.entries, ends.1))
drained-where blocks limits history p some stands n (Some g) runs is = absurd (cc)

drained-end : (blocks : ℕ) (limits : Limits) (history : List Entry) (p : PlainPartition) → 1 ≤ blocks → Stands blocks limits history p → (n : ℕ)
    → (drain p).1 ≡ Some (ending.Drained n) → HoldsDrained blocks history n (drain p).0.now
unfolding drain
drained-end blocks limits history p some stands n is = drained-where blocks limits history p some stands n (least grain_lt (keys_where is_running p.grains)) refl is

-- ---- it is quiet

-- a subscription with nothing to deliver
none-deliverable : (cache : ℕ) (t0 : Summary) (u : Tally) (q : PlainPartition) → Finished cache t0 u q → (s : SubName) (r : Subscription) → sub_at q s ≡ Some r → (r.is_open && is_some (next_position q r)) ≡ false
none-deliverable cache t0 u q finished s r found =
    (elim r.is_open as (λ b. r.is_open ≡ b → (b && is_some (next_position q r)) ≡ false) [
      | true ↦ λ is_open.
          let served = (finished.0.told.fits.subs s r found).served is_open in
          let seen : q.high ≤ r.cursor = omega (arith, finished.2 s r found is_open, served.resume_cursor) in
          ap is_some (next-none q r seen)
      | false ↦ λ closed. refl
    ]) refl

quiet-parts : (first : Option Pending) (subs : List SubName) (mailboxes turns : List GrainId) → first ≡ None → subs ≡ [] → mailboxes ≡ [] → turns ≡ []
    → quiet_reply (or_else first (or_else (deliverable (least sub_lt subs)) (or_else (waiting (least grain_lt mailboxes)) (running (least grain_lt turns))))) ≡ IsQuiet
quiet-parts first subs mailboxes turns none no_subs no_mailboxes no_turns = rw (none, no_subs, no_mailboxes, no_turns) refl

finished-quiet : (cache : ℕ) (t0 : Summary) (u : Tally) (q : PlainPartition) → Finished cache t0 u q → quiet q ≡ IsQuiet
unfolding quiet
finished-quiet cache t0 u q finished =
    let steady = finished.0.told.steady in
    let is_deliverable : Subscription → Bool = λ r. r.is_open && is_some (next_position q r) in
    quiet-parts (behind q) (keys_where is_deliverable q.subs) (keys_where is_waiting q.grains) (keys_where is_running q.grains)
    (ap (λ b. if b then Some pending.Behind else None) (le-ltb q.high (length q.log) (omega (arith, finished.3))))
    (keys_where-empty is_deliverable q.subs (each-entry same_sub sub_equality (λ (s : SubName) (r : Subscription). is_deliverable r ≡ false) q.subs steady.subs (none-deliverable cache t0 u q finished)))
    (keys_where-empty is_waiting q.grains (each-found (λ (st : Grain). is_waiting st ≡ false) q steady.grains (λ g. ap (λ (mailbox : List Delivery). nat_lt 0 (length mailbox)) (finished.1 g))))
    (keys_where-empty is_running q.grains (each-found (λ (st : Grain). is_running st ≡ false) q steady.grains (λ g. ap (λ (run : Option RunningTurn). is_some run) (finished.0.idle g))))

pub drained-quiet : DrainedIsQuiet
drained-quiet blocks limits history p some stands n is =
    let end = drained-end blocks limits history p some stands n is in
    finished-quiet blocks (summary (reverse history)) end.0 (drain p).0.now end.1

-- ---- the turns

-- an open subscription has handled all that it is owed
all-handled : (cache : ℕ) (t0 : Summary) (u : Tally) (q : PlainPartition) → Finished cache t0 u q → (s : SubName) (r : Subscription) → sub_at q s ≡ Some r → r.is_open ≡ true → u.said.handled s ≡ owed t0 s
all-handled cache t0 u q finished s r found is_open =
    let told = finished.0.told in
    let fits = told.fits.subs s r found in
    let served = fits.served is_open in
    let passes : Event → Bool = λ event. is_owed r.stream r.start event in
    let settled = finished.2 s r found is_open in
    let clear : IsClear (map passes q.log) (past r.handled) (length q.log) = λ x from below. served.safe x from (omega (arith, below, settled, finished.3)) in
    sym (append-nil (u.said.handled s))
    ∙ ap (λ rest. u.said.handled s ++ rest) (sym (filter-drop-none passes q.log (past r.handled) clear))
    ∙ handled-record u.said q s r told.fits.log fits
    ∙ ap₂ owed_of told.events (told.binding s)

finished-turns : (cache : ℕ) (history : List Entry) (u : Tally) (q : PlainPartition) → Finished cache (summary (reverse history)) u q → u.turns ≡ sum_open (left history) q.subs
finished-turns cache history u q finished =
    let t0 = summary (reverse history) in
    sym finished.0.told.turns
    ∙ sum_open-same (handled_since t0 u.said) (left history) q.subs
    (each-entry same_sub sub_equality (λ (s : SubName) (r : Subscription). r.is_open ≡ true → handled_since t0 u.said s ≡ left history s) q.subs finished.0.told.steady.subs
    (λ s r found is_open. ap (λ (events : List Event). length events - length (t0.handled s)) (all-handled cache t0 u q finished s r found is_open)))

pub drained-turns : DrainedTurns
drained-turns blocks limits history p some stands n is =
    let end = drained-end blocks limits history p some stands n is in
    sym end.2 ∙ finished-turns blocks history end.0 (drain p).0.now end.1
