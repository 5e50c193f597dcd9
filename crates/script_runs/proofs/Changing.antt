-- The silos that live, by a line of a script.
use Rattle.script_runs.proofs.Prelude.{lives-at, not-fixed, op-refl, ClusterView, IsDown, IsUp, MayGo, OperatorGoesOn, ◌≡◌, ◌≢◌, ℕ, zero, suc, true, false, ◌||◌, not, List, [], ◌∷◌, ◌++◌, length, Some, Contains, filter, remove, refl, sym, ap, subst, ◌∙◌, arith, ◌==◌, if◌then◌else◌, cond_both, eq-eqb, eqb-true, ne_eqb, or_parts, or_right, slice_get_within, slice_get, Command}
use Rattle.std.proofs.lemmas.Bool.{false_from_ne_true}
use Rattle.std.proofs.lemmas.List.Folds.{list_any_at}
use Rattle.std.proofs.lemmas.List.Quantifiers.{all_pairs_remove}
use Rattle.std.proofs.lemmas.Map.Views.{Contains-from_any}
use Rattle.queue_balancer.specs.Balance.{HasNoDoubles}
use Rattle.queue_balancer.proofs.CountLemmas.{HasNoDoubles-rest}
use Rattle.silo_operators.proofs.Spreading.{one-more}
use Rattle.stream_script.specs.declared.parser.command.Command.TheVariants as command
use Rattle.script_runs.specs.ScriptReport.{live_after, refused_where}
use Rattle.script_runs.specs.Told.{is_among}
use Rattle.script_runs.specs.declared.producer.answer.Answer.TheVariants as answer
use Rattle.script_runs.specs.Lines.{ChangesBy, PrintsChange, StaysOpen}

-- ---- whether a silo is among those that live

among-has : (silo : ℕ) (live : List ℕ) → is_among silo live ≡ true → Contains live silo
among-has silo live is = Contains-from_any {K = ℕ} {eq = λ (one other : ℕ). other == one} (λ one other same. sym (eqb-true other one same)) silo live is

has-among : (silo : ℕ) (live : List ℕ) → Contains live silo → is_among silo live ≡ true
has-among silo live has = list_any_at (λ (other : ℕ). other == silo) live has.0 silo has.1 (eq-eqb _ silo has.2)

not-among : (silo : ℕ) (live : List ℕ) → ¬ Contains live silo → is_among silo live ≡ false
not-among silo live none = false_from_ne_true (is_among silo live) (λ is. none (among-has silo live is))

-- ---- a silo that goes

kept-all : (silo : ℕ) (xs : List ℕ) → is_among silo xs ≡ false → filter (λ (other : ℕ). not (other == silo)) xs ≡ xs
kept-all silo [] none = refl
kept-all silo (x ∷ xs) none =
    let parts = or_parts (x == silo) (is_among silo xs) none in
    ap (λ b. if not b then x ∷ filter (λ (other : ℕ). not (other == silo)) xs else filter (λ (other : ℕ). not (other == silo)) xs) parts.0
    ∙ ap (λ ys. x ∷ ys) (kept-all silo xs parts.1)

first-once : (x : ℕ) (xs : List ℕ) → HasNoDoubles (x ∷ xs) → ¬ Contains xs x
first-once x xs once has = once 0 (suc has.0) x (omega arith) (omega (arith, has.1)) (sym has.2)

removed : (live : List ℕ) (place silo : ℕ) → HasNoDoubles live → slice_get live place ≡ Some silo → remove live place ≡ filter (λ (other : ℕ). not (other == silo)) live
removed [] place silo once at = absurd (cc)
removed (x ∷ xs) zero silo once at =
    let same : x ≡ silo = cc in
    sym (kept-all silo xs (not-among silo xs (subst (λ (y : ℕ). ¬ Contains xs y) same (first-once x xs once))))
    ∙ ap (λ b. if not b then x ∷ filter (λ (other : ℕ). not (other == silo)) xs else filter (λ (other : ℕ). not (other == silo)) xs) (sym (eq-eqb x silo same))
removed (x ∷ xs) (suc place) silo once at =
    let other : (x == silo) ≡ false = ne_eqb x silo (λ same. first-once x xs once (subst (λ (y : ℕ). Contains xs y) (sym same) (lives-at xs place silo at))) in
    ap (λ ys. x ∷ ys) (removed xs place silo (HasNoDoubles-rest x xs once) at)
    ∙ ap (λ b. if not b then x ∷ filter (λ (other : ℕ). not (other == silo)) xs else filter (λ (other : ℕ). not (other == silo)) xs) (sym other)

-- ---- silos may still come and go

open-after : (v w : ClusterView) → (w.is_parked ≡ v.is_parked) × (w.rounds ≡ v.rounds) × (w.looks ≡ v.looks) → w.is_halted ≡ false → StaysOpen v w
open-after v w same goes = λ free. (not-fixed w (same.0 ∙ (or_parts v.is_parked v.is_halted free).0) goes, same.2)

-- ---- what the answers say

-- a silo came
pub came : (v w : ClusterView) (silo : ℕ) → ¬ Contains v.operator.live silo → IsUp v silo w → ChangesBy v (command.Up silo) answer.Taken w
came v w silo none comes =
    let live = v.operator.live in
    let fresh = not-among silo live none in
    record {
      on = comes.on;
      live = λ once. (
        comes.live ∙ ap (λ b. if b then live else live ++ silo ∷ []) (sym fresh),
        subst (λ (now : List ℕ). HasNoDoubles now) (sym comes.live) (one-more live silo once none),
      );
      prints = λ missed silos lines number is. ap (λ b. refused_where number b) (ap (λ (there : List ℕ). is_among silo there) (sym is) ∙ fresh);
      found = λ number missed. refl;
      stays = open-after v w comes.same comes.goes_on;
    }

-- a line that was refused left all as it was
refused : (v w : ClusterView) (said : Command) → w ≡ v → v.operator.live ≡ live_after v.operator.live said → PrintsChange v.operator.live said answer.Refused → ChangesBy v said answer.Refused w
refused v w said same live prints =
    subst (λ (u : ClusterView). ChangesBy v said answer.Refused u) (sym same)
    (record { on = op-refl v.operator; live = λ once. (live, once); prints = prints; found = λ number missed. refl; stays = λ free. (free, refl) })

-- a silo lived already
pub stays : (v w : ClusterView) (silo : ℕ) → Contains v.operator.live silo → w ≡ v → ChangesBy v (command.Up silo) answer.Refused w
stays v w silo has same =
    let live = v.operator.live in
    let here = has-among silo live has in
    refused v w (command.Up silo) same (ap (λ b. if b then live else live ++ silo ∷ []) (sym here))
    (λ missed silos lines number is. ap (λ b. refused_where number b) (ap (λ (there : List ℕ). is_among silo there) (sym is) ∙ here))

-- a silo went
pub went : (v w : ClusterView) (silo : ℕ) → MayGo v silo → IsDown v silo w → ChangesBy v (command.Down silo) answer.Taken w
went v w silo may goes =
    let live = v.operator.live in
    let left = goes.left in
    let more = ne_eqb (length live) 1 (λ same. omega (arith, may.1, same)) in
    record {
      on = goes.on;
      live = λ once. (
        left.live ∙ removed live goes.place silo once goes.stood ∙ ap (λ b. if b then live else filter (λ (other : ℕ). not (other == silo)) live) (sym more),
        subst (λ (now : List ℕ). HasNoDoubles now) (sym left.live) (all_pairs_remove (λ (one other : ℕ). one ≢ other) live goes.place (slice_get_within live goes.place silo goes.stood) once),
      );
      prints = λ missed silos lines number is.
          ap (λ (there : List ℕ). refused_where number (not (is_among silo there) || (length there == 1))) (sym is)
          ∙ ap (λ b. refused_where number (not b || (length live == 1))) (has-among silo live may.0)
          ∙ ap (λ b. refused_where number b) more;
      found = λ number missed. refl;
      stays = open-after v w goes.same goes.goes_on;
    }

-- a silo didn't live
pub lacks : (v w : ClusterView) (silo : ℕ) → ¬ Contains v.operator.live silo → w ≡ v → ChangesBy v (command.Down silo) answer.Refused w
lacks v w silo none same =
    let live = v.operator.live in
    refused v w (command.Down silo) same (cond_both (length live == 1) live (filter (λ (other : ℕ). not (other == silo)) live) (λ (kept : List ℕ). live ≡ kept) (λ _. refl) (λ _. sym (kept-all silo live (not-among silo live none))))
    (λ missed silos lines number is.
    ap (λ (there : List ℕ). refused_where number (not (is_among silo there) || (length there == 1))) (sym is)
    ∙ ap (λ b. refused_where number (not b || (length live == 1))) (not-among silo live none))

-- no other silo lived
pub is-last : (v w : ClusterView) (silo : ℕ) → v.operator.live ≡ silo ∷ [] → w ≡ v → ChangesBy v (command.Down silo) answer.Refused w
is-last v w silo one same =
    let live = v.operator.live in
    let single = eq-eqb (length live) 1 (ap (λ (there : List ℕ). length there) one) in
    refused v w (command.Down silo) same (ap (λ b. if b then live else filter (λ (other : ℕ). not (other == silo)) live) (sym single))
    (λ missed silos lines number is.
    ap (λ (there : List ℕ). refused_where number (not (is_among silo there) || (length there == 1))) (sym is)
    ∙ ap (λ b. refused_where number (not (is_among silo live) || b)) single
    ∙ ap (λ b. refused_where number b) (or_right (not (is_among silo live)) true refl))

pub same-on : (v w : ClusterView) → w ≡ v → OperatorGoesOn v.operator w.operator
same-on v w same = subst (λ (u : ClusterView). OperatorGoesOn v.operator u.operator) (sym same) (op-refl v.operator)
