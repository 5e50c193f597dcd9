-- Begin, Commit and Deactivate keep the limits.
use Rattle.stream_model.proofs.Prelude.{◌≡◌, ℕ, suc, ◌<◌, ◌==◌, ◌&&◌, false, not, nat_lt, List, [], ◌∷◌, ◌++◌, length, drop, Option, Some, None, is_some, subst, arith, cond_both, leb-false, AllByRecursion, All-append, All-drop, turn_size, past, GrainId, SubName}
use Rattle.stream_model.specs.declared.plain.Delivery.{Delivery}
use Rattle.stream_model.specs.declared.plain.Grain.{Grain}
use Rattle.stream_model.specs.declared.plain.PlainPartition.{PlainPartition}
use Rattle.stream_model.specs.declared.plain.RunningTurn.{RunningTurn}
use Rattle.stream_model.specs.declared.plain.Subscription.{Subscription}
use Rattle.stream_model.specs.Bounds.{AreIn, IsWithinLimits, running_positions}
use Rattle.stream_model.specs.Positions.{grain_at, is_spent, sub_at, with_grain}
use Rattle.stream_model.specs.Turns.{begin, begin_for, begin_front, begin_in, begin_turn, commit, commit_for, commit_running, ended, front_of, deactivate, deactivate_in, deactivated, is_open_of}
use Rattle.stream_model.proofs.Beginning.{All-front_of}
use Rattle.stream_model.proofs.RecordBounds.{GrainFits, grain-fits, grain-set, handled-in, option_both, sub-set, KeepsLimits, rewound-set}

bounds-begin_turn : (p : PlainPartition) (g : GrainId) (st : Grain) (s : SubName) (note : ℕ) (positions : List ℕ) → IsWithinLimits p → GrainFits p.log p.rises st → AreIn p.log positions → is_spent p ≡ false → IsWithinLimits (begin_turn p g st s note positions).0
unfolding begin_turn
bounds-begin_turn p g st s note positions within fits are_in left =
    let room = leb-false p.limits.rises p.rises left in
    grain-set p g (record st { mailbox = drop (length positions) st.mailbox; running = Some (record { sub = s; turn = suc p.turns; positions = positions }) }) (suc p.rises) (suc p.turns) within
    (omega arith) (omega arith) (omega (arith, within.turns))
    (omega (arith, fits.0), All-drop (λ (d : Delivery). d.position < length p.log) (length positions) st.mailbox fits.1, are_in)

bounds-begin_for : (p : PlainPartition) (g : GrainId) (n : ℕ) (st : Grain) (d : Delivery) (deliveries : List Delivery) (found : Option Subscription) → IsWithinLimits p → GrainFits p.log p.rises st → AllByRecursion (λ (d : Delivery). d.position < length p.log) deliveries → IsWithinLimits (begin_for p g n st d deliveries found).0
unfolding begin_for
bounds-begin_for p g n st d deliveries None within fits rest = within
bounds-begin_for p g n st d deliveries (Some r) within fits rest =
    cond_both (nat_lt d.position (past r.handled)) _ _ KeepsLimits
    (λ _. grain-set p g (record st { mailbox = deliveries }) p.rises p.turns within (omega arith) within.rises within.turns (fits.0, rest, fits.2))
    (λ _. cond_both (is_spent p) _ _ KeepsLimits (λ _. within)
    (λ left. bounds-begin_turn p g st d.sub r.note (front_of n d.sub d.position st.mailbox) within fits (All-front_of (length p.log) n d.sub d.position st.mailbox fits.1) left))

bounds-begin_front : (p : PlainPartition) (g : GrainId) (n : ℕ) (st : Grain) (mailbox : List Delivery) → IsWithinLimits p → GrainFits p.log p.rises st → AllByRecursion (λ (d : Delivery). d.position < length p.log) mailbox → IsWithinLimits (begin_front p g n st mailbox).0
unfolding begin_front
bounds-begin_front p g n st [] within fits all = within
bounds-begin_front p g n st (d ∷ deliveries) within fits all = bounds-begin_for p g n st d deliveries (sub_at p d.sub) within fits all.1

pub bounds-begin : (p : PlainPartition) (g : GrainId) (max_events : ℕ) → IsWithinLimits p → IsWithinLimits (begin p g max_events).0
unfolding begin begin_in
bounds-begin p g max_events within =
    let st = grain_at p g in
    let fits = grain-fits p g within in
    cond_both (is_some st.running) _ _ KeepsLimits (λ _. within)
    (λ _. cond_both (not st.active) _ _ KeepsLimits (λ _. within) (λ _. bounds-begin_front p g (turn_size max_events) st st.mailbox within fits fits.1))

bounds-ended : (p : PlainPartition) (g : GrainId) (st : Grain) → IsWithinLimits p → GrainFits p.log p.rises st → IsWithinLimits (ended p g st)
bounds-ended p g st within fits = grain-set p g (record st { running = None }) p.rises p.turns within (omega arith) within.rises within.turns (fits.0, fits.1, tt)

bounds-commit_for : (p : PlainPartition) (g : GrainId) (st : Grain) (run : RunningTurn) (note : ℕ) → IsWithinLimits p → GrainFits p.log p.rises st → AreIn p.log run.positions → IsWithinLimits (commit_for p g st run note (sub_at p run.sub)).0
unfolding commit_for
bounds-commit_for p g st run note within fits are_in =
    let after = bounds-ended p g st within fits in
    option_both (sub_at p run.sub) (λ found. KeepsLimits (commit_for p g st run note found)) (λ _. within)
    (λ r there. cond_both (not r.is_open) _ _ KeepsLimits (λ _. after)
    (λ _. sub-set (ended p g st) run.sub r (record r { handled = r.handled ++ run.positions; note = note }) after there
    (All-append (λ position. position < length p.log) r.handled run.positions (handled-in p run.sub r within there) are_in)))

pub bounds-commit : (p : PlainPartition) (g : GrainId) (activation turn note : ℕ) → IsWithinLimits p → IsWithinLimits (commit p g activation turn note).0
unfolding commit commit_running
bounds-commit p g activation turn note within =
    let st = grain_at p g in
    let fits = grain-fits p g within in
    let Runs : Option RunningTurn → Type 0 = λ o. AreIn p.log (running_positions o) in
    option_both st.running (λ running. KeepsLimits (commit_running p g st activation turn note running)) (λ _. within)
    (λ run is_running. cond_both ((activation == st.activation) && (turn == run.turn)) _ _ KeepsLimits
    (λ _. bounds-commit_for p g st run note within fits (subst Runs is_running fits.2)) (λ _. within))

bounds-deactivated : (p : PlainPartition) (g : GrainId) (st : Grain) → IsWithinLimits p → GrainFits p.log p.rises st → IsWithinLimits (deactivated p g st)
bounds-deactivated p g st within fits =
    let left : Grain = record st { active = false; mailbox = []; running = None } in
    let after = grain-set p g left p.rises p.turns within (omega arith) within.rises within.turns (fits.0, tt, tt) in
    rewound-set (with_grain p g left) (is_open_of g) p.rises after (omega arith) within.rises

pub bounds-deactivate : (p : PlainPartition) (g : GrainId) → IsWithinLimits p → IsWithinLimits (deactivate p g).0
unfolding deactivate deactivate_in
bounds-deactivate p g within =
    let st = grain_at p g in
    cond_both (not st.active) _ _ KeepsLimits (λ _. within) (λ _. bounds-deactivated p g st within (grain-fits p g within))
