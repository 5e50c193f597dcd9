-- What a step leaves, put together.
use Rattle.silo_loops.proofs.Prelude.{◌≡◌, ℕ, ◌+◌, ◌<◌, ◌≤◌, ◌⊎◌, inl, inr, List, [], ◌∷◌, All, length, map, Option, Some, None, Result, refl, sym, ap, subst, ◌∙◌, arith, get_or_from_slice_get, none-some, slice_get, unwrap_or, Reply, Op, Refusal}
use Rattle.std.proofs.Math.Seq.{map-set_same}
use Rattle.std.specs.Prelude.{IfNone}
use Rattle.silo_loops.specs.declared.advance.Advance.{Advance}
use Rattle.silo_loops.specs.declared.advance.Advance.TheVariants as advance
use Rattle.doorbells.specs.declared.loop_end.Over.{Over}
use Rattle.silo_loops.specs.declared.worker_walk.Step.TheVariants as step
use Rattle.silo_loops.specs.Walks.{Nothing, Work, WorkerState, work_in}
use Rattle.silo_loops.specs.Agents.{AgentAdvancesFrom, AgentCalls, AgentCounts, AgentState, AgentView, HasSamePlaces, OnesPulled, agent_of}
use Rattle.silo_loops.specs.Answers.{advance_of, over_of}
use Rattle.silo_loops.specs.Lines.{CallsAt, DirectoryPass, HasLooked, LineView, QueuePass, places, rested}
use Rattle.silo_loops.specs.Workers.{Follows, IsBeside, worker_of, WorkerAdvancesFrom, WorkerAsks, WorkerCalls, WorkerCounts, WorkerGoesOn, WorkerLooks, WorkerRanOut, WorkerView, WorkerWorks}

-- a call leaves each line at its turnstile
places-called : (lines : List LineView) (at : ℕ) (op : Op) (result : Result Reply Refusal) (new : List LineView) → CallsAt lines at op result new → places new ≡ places lines
places-called lines at op result new c =
    ap places c.whole
    ∙ map-set_same (λ (l : LineView). l.pass.turnstile) lines at c.is c.was
    (ap (λ (p : QueuePass). p.turnstile) c.calls.call.only ∙ ap (λ (l : LineView). l.pass.turnstile) (sym (get_or_from_slice_get lines at c.was c.was c.had)))

places-rested : (lines : List LineView) → places (map rested lines) ≡ places lines
places-rested [] = refl
places-rested (l ∷ lines) = ap (λ ps. l.pass.turnstile ∷ ps) (places-rested lines)

-- a call of a worker at a queue or at the directory leaves it at its turnstiles
called-beside : {K : Type 0} (v w : WorkerView) → WorkerCalls v w ⊎ (WorkerAsks v w ⊎ K) → (K → IsBeside v w) → IsBeside v w
called-beside v w (inl c) other = record { lines = places-called v.lines c.at c.op c.result w.lines c.calls; directory = ap (λ (d : DirectoryPass). d.turnstile) c.directory }
called-beside v w (inr (inl a)) other = record { lines = ap places a.lines; directory = ap (λ (d : DirectoryPass). d.turnstile) a.calls.call.only }
called-beside v w (inr (inr k)) other = other k

-- a step leaves a worker at its turnstiles
pub worker-beside : (follows : Follows) (from : Option Over) (did : Advance) (v w : WorkerView) → WorkerAdvancesFrom follows from did v w → IsBeside v w
worker-beside follows None advance.Did v w a =
    called-beside v w a.0.1 (λ (k : WorkerWorks follows v w). record { lines = ap places k.lines; directory = ap (λ (d : DirectoryPass). d.turnstile) k.directory })
worker-beside follows None advance.Idle v w a =
    record { lines = ap places a.0.1.lines ∙ places-rested v.lines; directory = ap (λ (d : DirectoryPass). d.turnstile) a.0.1.directory }
worker-beside follows None (advance.Over end) v w a =
    called-beside v w a.0.1 (λ (k : WorkerRanOut v w). record { lines = ap (λ (u : WorkerView). places u.lines) k.0; directory = ap (λ (u : WorkerView). u.directory.turnstile) k.0 })
worker-beside follows (Some end) did v w a = record { lines = ap (λ (u : WorkerView). places u.lines) a.1; directory = ap (λ (u : WorkerView). u.directory.turnstile) a.1 }

-- and an agent
pub agent-beside : (from : Option Over) (did : Advance) (v w : AgentView) → AgentAdvancesFrom from did v w → HasSamePlaces v w
agent-beside None advance.Did v w a = places-called v.lines a.0.1.at a.0.1.op a.0.1.result w.lines a.0.1.calls
agent-beside None advance.Idle v w a = ap places a.0.1.lines ∙ places-rested v.lines
agent-beside None (advance.Over end) v w a =
    elim (a.0.1) as (λ s. HasSamePlaces v w) [ inl c ↦ places-called v.lines c.at c.op c.result w.lines c.calls | inr k ↦ ap (λ (u : AgentView). places u.lines) k.ended ]
agent-beside (Some end) did v w a = ap (λ (u : AgentView). places u.lines) a.1

-- what a step is, by the way that it was made
pub steps-called : (follows : Follows) {v w : WorkerView} (over : Option Over) → WorkerCalls v w → w.over ≡ over → WorkerGoesOn follows (advance_of over) v w
steps-called follows None c ends = (ends, inl c)
steps-called follows (Some end) c ends = (ends, inl c)

pub steps-asked : (follows : Follows) {v w : WorkerView} (over : Option Over) → WorkerAsks v w → w.over ≡ over → WorkerGoesOn follows (advance_of over) v w
steps-asked follows None a ends = (ends, inr (inl a))
steps-asked follows (Some end) a ends = (ends, inr (inl a))

module _ (follows : Follows) (v w : WorkerState) {rounds counted : ℕ} where
  pub goes-on : {answer : Advance} (over : Option Over) → answer ≡ advance_of over → WorkerGoesOn follows (advance_of over) (worker_of v rounds None) (worker_of w counted over) → WorkerCounts (worker_of v rounds None) (worker_of w counted over)
      → WorkerAdvancesFrom follows None answer (worker_of v rounds None) (worker_of w counted (over_of answer))
  goes-on None says s counts = subst (λ a. WorkerAdvancesFrom follows None a (worker_of v rounds None) (worker_of w counted (over_of a))) (sym says) (s, counts)
  goes-on (Some end) says s counts = subst (λ a. WorkerAdvancesFrom follows None a (worker_of v rounds None) (worker_of w counted (over_of a))) (sym says) (s, counts)

-- how a round begins, or doesn't
module _ (follows : Follows) (v : WorkerState) (rounds : ℕ) (rests : v.step ≡ step.Rest) where
  nothing : (at : ℕ) → work_in at v.step v.events ≡ Nothing
  nothing at = ap (λ s. work_in at s v.events) rests

  pub round-idle : {w : WorkerState} → All HasLooked v.lines → w ≡ record v { lines = map rested v.lines } → WorkerAdvancesFrom follows None advance.Idle (worker_of v rounds None) (worker_of w rounds None)
  round-idle looked is =
      subst (λ x. WorkerAdvancesFrom follows None advance.Idle (worker_of v rounds None) (worker_of x rounds None)) (sym is)
      ((refl, record { looked = looked; lines = refl; work = (nothing v.at, nothing v.at); directory = refl; silo = refl }), inl refl)

  resting : Work → WorkerView
  resting work = record { silo = v.silo; lines = v.lines; directory = v.directory; work = work; rounds = rounds; over = None }

  same-at : {u : WorkerState} → u ≡ record v { at = u.at } → worker_of u rounds None ≡ worker_of v rounds None
  unfolding resting
  same-at {u} is = ap (λ (x : WorkerState). worker_of x rounds None) is ∙ ap resting (nothing u.at ∙ sym (nothing v.at))

  pub round-begun : {u : WorkerState} (w : WorkerState) {counted : ℕ} {answer : Advance} (over : Option Over) → u ≡ record v { at = u.at } → counted + 1 ≡ rounds → answer ≡ advance_of over
      → ((rounds counted : ℕ) → WorkerLooks (worker_of u rounds None) (worker_of w counted over)) → WorkerAdvancesFrom follows None answer (worker_of v rounds None) (worker_of w counted (over_of answer))
  round-begun {u} w {counted} over is more says looks =
      let looked = subst (λ x. WorkerLooks x (worker_of w counted over)) (same-at is) (looks rounds counted) in
      goes-on follows v w {rounds = rounds} {counted = counted} over says (steps-called follows over looked.0 refl) (inr (more, looked))

pub beside-after : (u v w : WorkerView) → IsBeside u v → IsBeside v w → IsBeside u w
beside-after u v w a b = record { lines = b.lines ∙ a.lines; directory = b.directory ∙ a.directory }

-- the steps of an agent
module _ {v : AgentView} (a : AgentState) {counted : ℕ} where
  agent-called : (over : Option Over) → AgentCounts v (agent_of a counted over) → AgentCalls v (agent_of a counted over) → AgentAdvancesFrom None (advance_of over) v (agent_of a counted (over_of (advance_of over)))
  agent-called None counts c = ((refl, c), counts)
  agent-called (Some end) counts c = ((refl, inl c), counts)

  pub agent-steps : {answer : Advance} (over : Option Over) → answer ≡ advance_of over → (counted ≡ v.rounds) ⊎ (counted + 1 ≡ v.rounds) → AgentCalls v (agent_of a counted over)
      → AgentAdvancesFrom None answer v (agent_of a counted (over_of answer))
  agent-steps over says counts c =
      subst (λ d. AgentAdvancesFrom None d v (agent_of a counted (over_of d))) (sym says)
      (agent-called over (elim counts as (λ s. AgentCounts v (agent_of a counted over)) [ inl same ↦ inl same | inr more ↦ inr (more, c) ]) c)

module _ {lines : List LineView} {was : List (Option ℕ)} {rounds : ℕ} {a : AgentState} (same : a.lines ≡ lines) where
  pub agent-rests : {b : AgentState} → b ≡ record a { lines = map rested a.lines } → OnesPulled a.lines a.held
      → AgentAdvancesFrom None advance.Idle (record { lines = lines; held = was; rounds = rounds; over = None }) (agent_of b rounds None)
  agent-rests {b} is pulled =
      subst (λ ls. AgentAdvancesFrom None advance.Idle (record { lines = ls; held = was; rounds = rounds; over = None }) (agent_of b rounds None)) same
      (subst (λ x. AgentAdvancesFrom None advance.Idle (record { lines = a.lines; held = was; rounds = rounds; over = None }) (agent_of x rounds None)) (sym is)
      ((refl, record { pulled = pulled; lines = refl }), inl refl))

-- where no queue is held from the first one on, each that is was pulled
pub none-pulled : (found : Option ℕ) (lines : List LineView) (held : List (Option ℕ)) {first : ℕ} → first ≡ 0 → length held ≡ length lines → IfNone found ((at : ℕ) → at < length held → first ≤ at → slice_get held at ≡ Some None)
    → IfNone found (OnesPulled lines held)
none-pulled None lines held start same none =
    λ at line generation within holds. absurd (none-some generation (ap (λ o. unwrap_or o None) (sym (none at (omega (arith, same)) (omega (arith, start))) ∙ holds)))
none-pulled (Some generation) lines held start same none = none
