-- Whether an agent was replaced.
use Rattle.step_core.proofs.Prelude.{PlainAgent, answered, StaleAgent, ◌≡◌, refl, subst, sym, ℕ, Bool, true, false, ◌==◌, if◌then◌else◌, Result, Err, Ok}

-- the caller named another generation
pub record IsReplaced (a : PlainAgent) (generation : ℕ) (stale : StaleAgent) : Type 0 where
  pub other : (generation == a.generation) ≡ false
  pub now : stale.now ≡ a.generation

-- the caller named the generation, and was answered
pub record IsAnswered {T : Type 0} (a : PlainAgent) (generation : ℕ) (answer given : T) : Type 0 where
  pub own : (generation == a.generation) ≡ true
  pub is : given ≡ answer

module _ {T : Type 0} (a : PlainAgent) (generation : ℕ) (answer : T) where
  abbrev pub IsTold : Result T StaleAgent → Type 0
  IsTold (Ok given) = IsAnswered a generation answer given
  IsTold (Err stale) = IsReplaced a generation stale

  pub answered-as : (told : Result T StaleAgent) → told ≡ answered a generation answer → IsTold told
  answered-as told is = subst IsTold (sym is) (by (generation == a.generation) refl)
    where
      by : (b : Bool) → (generation == a.generation) ≡ b → IsTold (if b then Ok answer else Err (record { now = a.generation }))
      by true own = record { own = own; is = refl }
      by false other = record { other = other; now = refl }
