-- Numbers of records, in the names' stead.
use Rattle.std.specs.Prelude.{◌≡◌, ℕ, ◌<◌, true, List, length, Option, Some, None, ⊤}
use Rattle.std.specs.List.{AllByRecursion}
use Rattle.stream_ident.specs.declared.ident.SubName.{SubName}
use Rattle.stream_ident.specs.SubName.{same_sub}
use Rattle.consumer_grain.specs.declared.activation.RunningTurn.{RunningTurn}
use Rattle.consumer_grain.specs.Activations.{PlainActivation}
use Rattle.pubsub_registry.specs.declared.registration.Registration.{Registration}
use Rattle.step_core.specs.View.{name_at}

-- no name stands under two numbers
abbrev pub AreDistinct : List (SubName × Registration) → Type 0
AreDistinct names = (i j : ℕ) → i < length names → j < length names → same_sub (name_at names i) (name_at names j) ≡ true → i ≡ j

abbrev pub TurnIsBelow : ℕ → Option RunningTurn → Type 0
TurnIsBelow n None = ⊤
TurnIsBelow n (Some run) = run.sub < n

-- a grain knows only numbers below this
pub record IsBelow (n : ℕ) (a : PlainActivation) : Type 0 where
  pub waiting : AllByRecursion (λ d. d.sub < n) a.mailbox
  pub running : TurnIsBelow n a.running
  pub subs : AllByRecursion (λ sub. sub < n) a.subs
