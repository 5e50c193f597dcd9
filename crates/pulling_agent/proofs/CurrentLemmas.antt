-- What a call changed and told, where the caller speaks for the agent or for one that was replaced.
use Rattle.pulling_agent.proofs.Prelude.{◌≡◌, ap, refl, ℕ, Bool, true, false, ◌==◌}
use Rattle.std.specs.Prelude.{if◌then◌else◌, Result, Ok, Err}
use Rattle.pulling_agent.specs.Agent.{PlainAgent, if_current}
use Rattle.pulling_agent.specs.declared.agent.StaleAgent.{StaleAgent}

-- the caller named the generation, and all was done
pub record IsDone {S T : Type 0} (a : PlainAgent) (generation : ℕ) (done : S × T) (new : S) (told : T) : Type 0 where
  pub own : (generation == a.generation) ≡ true
  pub is : ◌≡◌ {A = S × T} (new, told) done

-- the caller named another generation, and nothing changed
pub record IsRefused {S : Type 0} (a : PlainAgent) (generation : ℕ) (was new : S) (stale : StaleAgent) : Type 0 where
  pub other : (generation == a.generation) ≡ false
  pub now : stale.now ≡ a.generation
  pub same : new ≡ was

module _ {S T : Type 0} (a : PlainAgent) (generation : ℕ) (was : S) (done : S × T) where
  abbrev Told : Type 0
  Told = S × Result T StaleAgent

  -- what is done where the generation is the agent's own or not
  abbrev done_by : Bool → Told
  done_by own = if own then (done.0, Ok done.1) else (was, Err (record { now = a.generation }))

  pub done-current : (new : S) (told : T) → ◌≡◌ {A = Told} (new, Ok told) (if_current a generation was done) → IsDone a generation done new told
  done-current new told = by (generation == a.generation) refl
    where
      by : (b : Bool) → (generation == a.generation) ≡ b → ◌≡◌ {A = Told} (new, Ok told) (done_by b) → IsDone a generation done new told
      by true own e =
          let state : new ≡ done.0 = ap (λ (r : Told). r.0) e in
          let answer : ◌≡◌ {A = Result T StaleAgent} (Ok told) (Ok done.1) = ap (λ (r : Told). r.1) e in
          let given : told ≡ done.1 = cc in
          record { own = own; is = λ i. (state i, given i) }
      by false other e = let answer : ◌≡◌ {A = Result T StaleAgent} (Ok told) (Err (record { now = a.generation })) = ap (λ (r : Told). r.1) e in absurd (cc)

  pub done-stale : (new : S) (stale : StaleAgent) → ◌≡◌ {A = Told} (new, Err stale) (if_current a generation was done) → IsRefused a generation was new stale
  done-stale new stale = by (generation == a.generation) refl
    where
      by : (b : Bool) → (generation == a.generation) ≡ b → ◌≡◌ {A = Told} (new, Err stale) (done_by b) → IsRefused a generation was new stale
      by true own e = let answer : ◌≡◌ {A = Result T StaleAgent} (Err stale) (Ok done.1) = ap (λ (r : Told). r.1) e in absurd (cc)
      by false other e =
          let answer : ◌≡◌ {A = Result T StaleAgent} (Err stale) (Err (record { now = a.generation })) = ap (λ (r : Told). r.1) e in
          let is : stale ≡ record { now = a.generation } = cc in
          record { other = other; now = ap (λ (s : StaleAgent). s.now) is; same = ap (λ (r : Told). r.0) e }
