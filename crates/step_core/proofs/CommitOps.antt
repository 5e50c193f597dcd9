-- A worker ends a turn, done by the parts.
use Rattle.step_core.proofs.Prelude.{PlainActivation, commit_turn, current_turn, holds, is_turn, without_turn, committed, RunningTurn, Delivery, activation_at, no_grain, PlainGrains, number_of, PlainRegistry, Registration, ◌≡◌, ◌∙◌, ap, ap₂, sym, subst, refl, ℕ, suc, ◌<◌, Bool, true, false, ◌&&◌, not, List, [], ◌∷◌, ◌++◌, length, Option, Some, None, ◌==◌, pred, nat_le, arith, and_from, cond_both, eq-eqb, false≢true, le-leb, AllByRecursion, list_any, option_map, if◌then◌else◌, place_of-key, same_sub-refl, same_grain, same_sub, change_at, past, GrainId, SubName, Token, marks_of, running_of, grain-fits, AreIn, IsWithinLimits, running_positions, grain_at, running_in, sub_at, token_at, with_sub, Reply, takes_memory, Grain, PlainPartition, Subscription, PlainTable, no_entry, no_state, state_at, with_state, or_right}
use Rattle.stream_model.specs.declared.plain.RunningTurn as plain_turn
use Rattle.stream_model.specs.declared.reply.Reply.TheVariants as reply
use Rattle.stream_model.specs.Turns as plain
use Rattle.stream_laws.proofs.Marks.{IsNext}
use Rattle.consumer_grain.specs.Activations.{commit}
use Rattle.consumer_grain.specs.Activations as holding
use Rattle.consumer_grain.specs.Handled.{rises_from}
use Rattle.grain_table.specs.Changes as grains
use Rattle.subscription_table.specs.Table as table
use Rattle.step_core.specs.Assembly.{IsAssembled}
use Rattle.step_core.specs.Known.{AreKnown, IsOf}
use Rattle.step_core.specs.Numbers.{AreDistinct, IsBelow, TurnIsBelow}
use Rattle.step_core.specs.declared.parts.Parts.{Parts}
use Rattle.step_core.specs.PlainOf.{plain_of}
use Rattle.step_core.specs.TurnReplies.{handle}
use Rattle.step_core.specs.Records.{record_of}
use Rattle.step_core.specs.View.{grain_of, name_at, turn_of}
use Rattle.step_core.proofs.GrainOps.{grain-found, grain-new, grain-set}
use Rattle.step_core.proofs.KnownOps.{known-grain, known-state}
use Rattle.step_core.proofs.KnownTurns.{ended-holds}
use Rattle.step_core.proofs.NamesOps.{number-of-name, record-of-number}
use Rattle.step_core.proofs.NumberedOps.{HasGrain, All-change_at, change_at-by, grain-below, grain-within}
use Rattle.step_core.proofs.RecordOps.{record-set}
use Rattle.step_core.proofs.Shared.{distinct-of-unique, history-of, name-same}
use Rattle.std.proofs.lemmas.Option.{cond_some}

-- the turn that was asked for runs
running-is : (running : Option RunningTurn) (run : RunningTurn) (own activation turn : ℕ) → (if is_turn own activation turn running then running else None) ≡ Some run → running ≡ Some run
running-is None run own activation turn is = absurd (cc)
running-is (Some r) run own activation turn is = ap Some (cond_some ((activation == own) && (turn == r.turn)) r run is).1

-- ---- what runs is of numbers that are given, of positions of the log, and goes on where what is handled ends

view-running : (parts : Parts) (g : GrainId) (i : ℕ) (run : RunningTurn) → number_of parts.grains g ≡ Some i → (activation_at parts.grains i).running ≡ Some run → (grain_at (plain_of parts) g).running ≡ Some (turn_of parts.subs.registry.names run)
view-running parts g i run found is =
    ap (λ (st : Grain). st.running) (grain-found parts g i no_grain found) ∙ ap (λ o. option_map (turn_of parts.subs.registry.names) o) is

pub running-within : (parts : Parts) (g : GrainId) (i : ℕ) (run : RunningTurn) → IsWithinLimits (plain_of parts) → number_of parts.grains g ≡ Some i → (activation_at parts.grains i).running ≡ Some run → AllByRecursion (λ position. position < length parts.queue.events) run.positions
running-within parts g i run within found is =
    subst (λ o. AreIn parts.queue.events (running_positions o)) (view-running parts g i run found is) (grain-fits (plain_of parts) g within).2

rises-next : (marks : List Bool) (a : ℕ) (positions : List ℕ) → IsNext marks a positions → rises_from a positions ≡ true
rises-next marks a [] next = refl
rises-next marks a (position ∷ positions) next =
    and_from (nat_le a position) (rises_from (suc position) positions) (le-leb a position next.0) (rises-next marks (suc position) positions next.3)

own-running : (s : SubName) (run : plain_turn.RunningTurn) → s ≡ run.sub → running_in s (Some run) ≡ run.positions
own-running s run is = ap (λ b. if b then run.positions else []) (ap (λ s. same_sub s run.sub) is ∙ same_sub-refl run.sub)

-- exactly this turn runs for a grain with a number
pub record Runs (parts : Parts) (g : GrainId) (i activation turn : ℕ) (run : RunningTurn) : Type 0 where
  pub has : HasGrain parts g i
  pub is_current : current_turn (activation_at parts.grains i) activation turn ≡ Some run

module _ {parts : Parts} {g : GrainId} {i activation turn : ℕ} {run : RunningTurn} (runs : Runs parts g i activation turn run) where
  pub is-running : (activation_at parts.grains i).running ≡ Some run
  is-running = running-is (activation_at parts.grains i).running run (activation_at parts.grains i).number activation turn runs.is_current

  pub running-below : run.sub < length parts.subs.registry.names
  running-below = subst (TurnIsBelow (length parts.subs.registry.names)) is-running (grain-below runs.has).running

  record-runs : sub_at (plain_of parts) (name_at parts.subs.registry.names run.sub) ≡ Some (record_of parts run.sub)
  record-runs = record-of-number parts run.sub no_entry no_state (distinct-of-unique parts.subs.registry.names runs.has.agrees.unique) (sym runs.has.agrees.records.long) running-below

  -- its record is of the grain
  running-grain : (record_of parts run.sub).grain ≡ g
  running-grain =
      let history = history-of (plain_of parts) runs.has.agrees.reached in
      let view = view-running parts g i run runs.has.found is-running in
      let fits = (history.fits.grains.each g).running (turn_of parts.subs.registry.names run) view in
      let is_record = record-runs in
      let same : fits.record_of ≡ record_of parts run.sub = cc in
      ap (λ (r : Subscription). r.grain) (sym same) ∙ fits.grain

  pub running-rises : rises_from (past (state_at parts.subs run.sub).handled) run.positions ≡ true
  running-rises =
      let p = plain_of parts in
      let s = name_at parts.subs.registry.names run.sub in
      let r = record_of parts run.sub in
      let next = ((history-of p runs.has.agrees.reached).fits.subs s r record-runs).in_turn.next in
      let positions : running_of p s r ≡ run.positions =
      ap (λ g. running_in s (grain_at p g).running) running-grain ∙ ap (running_in s) (view-running parts g i run runs.has.found is-running) ∙ own-running s (turn_of parts.subs.registry.names run) refl in
      rises-next (marks_of r.stream r.start parts.queue.events) (past r.handled) run.positions (subst (IsNext (marks_of r.stream r.start parts.queue.events) (past r.handled)) positions next)

-- ---- what the parts do and reply

-- with these subscriptions and grains
abbrev pub with_both : Parts → PlainTable → PlainGrains → Parts
with_both parts subs grains = record parts { subs = subs; grains = grains }

abbrev pub out_of : Parts → PlainGrains → PlainTable × Reply → PlainPartition × Reply
out_of parts grains (subs, reply) = (plain_of (with_both parts subs grains), reply)

-- where this turn runs it ends, and its events are handled where its subscription is open
abbrev commit_by : Parts → ℕ → ℕ → Option RunningTurn → PlainPartition × Reply
commit_by parts i note None = (plain_of parts, reply.Stale)
commit_by parts i note (Some run) = out_of parts (change_at without_turn i parts.grains) (handle parts.subs parts.queue run note)

commit-running : (parts : Parts) (g : GrainId) (i activation turn note : ℕ) (running : Option RunningTurn) → HasGrain parts g i → (activation_at parts.grains i).running ≡ running
    → plain.commit_running (plain_of parts) g (grain_of parts.subs.registry.names (activation_at parts.grains i)) activation turn note (option_map (turn_of parts.subs.registry.names) running)
    ≡ commit_by parts i note (if is_turn (activation_at parts.grains i).number activation turn running then running else None)
unfolding plain.commit_running plain.commit_for
commit-running parts g i activation turn note None has is = refl
commit-running parts g i activation turn note (Some run) has is =
    rw (record-of-number parts run.sub no_entry no_state distinct (sym has.agrees.records.long) below)
    (by ((activation == (activation_at parts.grains i).number) && (turn == run.turn)) (told (state_at parts.subs run.sub).live))
  where
    names : List (SubName × Registration)
    names = parts.subs.registry.names

    distinct : AreDistinct names
    distinct = distinct-of-unique names has.agrees.unique

    below : run.sub < length names
    below = subst (TurnIsBelow (length names)) is (grain-below has).running

    ended : Parts
    ended = record parts { grains = change_at without_turn i parts.grains }

    left : PlainPartition
    left = plain.ended (plain_of parts) g (grain_of names (activation_at parts.grains i))

    change : Subscription → Subscription
    change r = record r { handled = r.handled ++ run.positions; note = note }

    after : PlainTable
    after = with_state parts.subs run.sub (committed run.positions note (state_at parts.subs run.sub))

    token : Token
    token = token_at (plain_of parts) (pred (past run.positions))

    ends : left ≡ plain_of ended
    ends = grain-set parts g i no_grain without_turn (λ st. record st { running = None }) has.found refl

    handles : with_sub (plain_of ended) (name_at names run.sub) (change (record_of parts run.sub)) ≡ plain_of (record ended { subs = after })
    handles =
        record-set ended (name_at names run.sub) run.sub no_entry no_state (committed run.positions note (state_at parts.subs run.sub)) change (sym has.agrees.records.long)
        (number-of-name names run.sub distinct below) refl

    told : (is_open : Bool)
        → (if not is_open then (left, reply.Closed) else (with_sub left (name_at names run.sub) (change (record_of parts run.sub)), reply.Committed (name_at names run.sub) token))
        ≡ out_of parts (change_at without_turn i parts.grains) (if is_open then (after, reply.Committed (table.name_at parts.subs run.sub) token) else (parts.subs, reply.Closed))
    told false = ap {B = PlainPartition × Reply} (λ p. (p, reply.Closed)) ends
    told true =
        ap₂ {C = PlainPartition × Reply} (λ p s. (p, reply.Committed s token)) (ap (λ p. with_sub p (name_at names run.sub) (change (record_of parts run.sub))) ends ∙ handles) (name-same parts.subs run.sub)

    by : (its : Bool) {left : PlainPartition × Reply} → left ≡ commit_by parts i note (Some run) → (if its then left else (plain_of parts, reply.Stale)) ≡ commit_by parts i note (if its then Some run else None)
    by true is = is
    by false is = refl

commit-is : (parts : Parts) (g : GrainId) (i activation turn note : ℕ) → HasGrain parts g i
    → plain.commit (plain_of parts) g activation turn note ≡ commit_by parts i note (current_turn (activation_at parts.grains i) activation turn)
unfolding plain.commit
commit-is parts g i activation turn note has =
    rw (grain-found parts g i no_grain has.found) (commit-running parts g i activation turn note (activation_at parts.grains i).running has refl)

pub commit-none : (parts : Parts) (g : GrainId) (activation turn note : ℕ) → number_of parts.grains g ≡ None → plain.commit (plain_of parts) g activation turn note ≡ (plain_of parts, reply.Stale)
unfolding plain.commit plain.commit_running
commit-none parts g activation turn note none = rw (grain-new parts g none) refl

-- no such turn runs
pub commit-stale : (parts : Parts) (g : GrainId) (i activation turn note : ℕ) → HasGrain parts g i → current_turn (activation_at parts.grains i) activation turn ≡ None → plain.commit (plain_of parts) g activation turn note ≡ (plain_of parts, reply.Stale)
commit-stale parts g i activation turn note has none = commit-is parts g i activation turn note has ∙ ap (commit_by parts i note) none

-- where this turn runs, a commit leaves none
pub ends-running : {parts : Parts} {g : GrainId} {i activation turn : ℕ} {run : RunningTurn} (now : PlainGrains) → Runs parts g i activation turn run → now ≡ change_at (λ a. (commit a activation turn).0) i parts.grains → now ≡ change_at without_turn i parts.grains
ends-running {parts} {g} {i} {activation} {turn} now runs is_now =
    is_now ∙ change_at-by (λ a. (commit a activation turn).0) i parts.grains no_grain
    ∙ ap (λ (running : Option RunningTurn). change_at (λ _. (commit_turn (activation_at parts.grains i) running).0) i parts.grains) runs.is_current
    ∙ sym (change_at-by without_turn i parts.grains no_grain)

-- exactly this turn runs: it is handled, or its subscription is closed
pub commit-told : {parts : Parts} {g : GrainId} {i activation turn : ℕ} {run : RunningTurn} (note : ℕ) (subs : PlainTable) (grains : PlainGrains) (told : Reply) → Runs parts g i activation turn run
    → (subs, told) ≡ handle parts.subs parts.queue run note → grains ≡ change_at without_turn i parts.grains
    → (plain_of (with_both parts subs grains), told) ≡ plain.commit (plain_of parts) g activation turn note
commit-told {parts} {g} {i} {activation} {turn} {run} note subs grains told runs is_handled is_grains =
    ap₂ (out_of parts) is_grains is_handled ∙ sym (commit-is parts g i activation turn note runs.has ∙ ap (commit_by parts i note) runs.is_current)

-- where the subscription is open, the reply takes memory
pub commit-takes : {parts : Parts} {g : GrainId} {i activation turn : ℕ} {run : RunningTurn} (note : ℕ) → Runs parts g i activation turn run → (state_at parts.subs run.sub).live ≡ true
    → takes_memory (plain.commit (plain_of parts) g activation turn note).1 ≡ true
commit-takes {parts} {g} {i} {activation} {turn} {run} note runs is_open =
    ap (λ (out : PlainPartition × Reply). takes_memory out.1) (commit-is parts g i activation turn note runs.has ∙ ap (commit_by parts i note) runs.is_current)
    ∙ ap (λ b. takes_memory (told b).1) is_open
  where
    told : Bool → PlainTable × Reply
    told is_open =
        if is_open then (with_state parts.subs run.sub (committed run.positions note (state_at parts.subs run.sub)), reply.Committed (table.name_at parts.subs run.sub) (token_at (plain_of parts) (pred (past run.positions))))
        else (parts.subs, reply.Closed)

-- ---- the parts stay assembled

-- a table with other states has the same names
pub both-known : (parts : Parts) (subs : PlainTable) (grains : PlainGrains) → IsAssembled parts → subs.registry ≡ parts.subs.registry
    → AllByRecursion (λ (entry : GrainId × PlainActivation). IsBelow (length parts.subs.registry.names) entry.1) grains → AreKnown parts.subs.registry.names subs.states grains → IsAssembled (with_both parts subs grains)
both-known parts subs grains assembled same below known = record {
  most_subs = ap (λ r. r.most_names) same ∙ assembled.most_subs;
  most_rules = ap (λ r. r.most_rules) same ∙ assembled.most_rules;
  most_events = assembled.most_events;
  cached = assembled.cached;
  numbered = subst (λ (r : PlainRegistry). AllByRecursion (λ (entry : GrainId × PlainActivation). IsBelow (length r.names) entry.1) grains) (sym same) below;
  known = subst (λ (r : PlainRegistry). AreKnown r.names subs.states grains) (sym same) known;
}

ended-below : (n : ℕ) (a : PlainActivation) → IsBelow n a → IsBelow n (without_turn a)
ended-below n a below = record { waiting = below.waiting; running = tt; subs = below.subs }

handle-registry : (subs now : PlainTable) (told : Reply) (parts : Parts) (run : RunningTurn) (note : ℕ) → (now, told) ≡ handle subs parts.queue run note → now.registry ≡ subs.registry
handle-registry subs now told parts run note is =
    ap (λ (out : PlainTable × Reply). out.0.registry) is
    ∙ cond_both (state_at subs run.sub).live _ _ (λ (out : PlainTable × Reply). out.0.registry ≡ subs.registry) (λ _. refl) (λ _. refl)

-- what runs is of a record of the grain
commit-known : {parts : Parts} {g : GrainId} {i activation turn : ℕ} {run : RunningTurn} (note : ℕ) → Runs parts g i activation turn run
    → AreKnown parts.subs.registry.names (handle parts.subs parts.queue run note).0.states (change_at without_turn i parts.grains)
commit-known {parts} {g} {i} {activation} {turn} {run} note runs =
    let names = parts.subs.registry.names in
    let a = activation_at parts.grains i in
    let known = runs.has.agrees.assembled.known in
    let theirs : IsOf names parts.grains run.sub i = subst (λ (h : GrainId). same_grain h (grains.grain_at parts.grains i) ≡ true) (sym (running-grain runs)) (place_of-key same_grain g parts.grains no_grain i runs.has.found) in
    let held : holds run.sub a ≡ true = or_right (list_any (λ (d : Delivery). run.sub == d.sub) a.mailbox) (holding.runs run.sub a.running) (ap (holding.runs run.sub) (is-running runs) ∙ eq-eqb run.sub run.sub refl) in
    let handled : AreKnown names (handle parts.subs parts.queue run note).0.states parts.grains =
    cond_both (state_at parts.subs run.sub).live _ _ (λ (out : PlainTable × Reply). AreKnown names out.0.states parts.grains)
    (λ _. known-state names parts.subs.states parts.grains run.sub (committed run.positions note (state_at parts.subs run.sub)) known (omega (arith, running-below runs, runs.has.agrees.records.long))
    (λ is_open. is_open) (λ at none unheld. absurd (false≢true (sym (unheld i (grain-within runs.has) theirs) ∙ held))))
    (λ _. known)
    in
    known-grain names (handle parts.subs parts.queue run note).0.states parts.grains i without_turn handled (grain-within runs.has) refl (λ n none. ended-holds n a none)

pub commit-assembled : {parts : Parts} {g : GrainId} {i activation turn : ℕ} {run : RunningTurn} (note : ℕ) (subs : PlainTable) (grains : PlainGrains) (told : Reply) → Runs parts g i activation turn run
    → (subs, told) ≡ handle parts.subs parts.queue run note → grains ≡ change_at without_turn i parts.grains → IsAssembled (with_both parts subs grains)
commit-assembled {parts} {g} {i} {activation} {turn} {run} note subs grains told runs is_handled is_grains =
    let assembled = runs.has.agrees.assembled in
    both-known parts subs grains assembled (handle-registry parts.subs subs told parts run note is_handled)
    (subst (λ (grains : PlainGrains). AllByRecursion (λ entry. IsBelow (length parts.subs.registry.names) entry.1) grains) (sym is_grains)
    (All-change_at (IsBelow (length parts.subs.registry.names)) without_turn i parts.grains (ended-below (length parts.subs.registry.names)) assembled.numbered))
    (subst (AreKnown parts.subs.registry.names subs.states) (sym is_grains)
    (subst (λ (out : PlainTable × Reply). AreKnown parts.subs.registry.names out.0.states (change_at without_turn i parts.grains)) (sym is_handled) (commit-known note runs)))
