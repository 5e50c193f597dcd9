-- Which subscriptions a grain knows of: all of its own that something was ever offered for.
use Rattle.std.specs.Prelude.{◌≡◌, ℕ, ◌<◌, true, false, List, [], length, get_or}
use Rattle.stream_ident.specs.declared.ident.GrainId.{GrainId}
use Rattle.stream_ident.specs.declared.ident.SubName.{SubName}
use Rattle.stream_ident.specs.Name.{same_grain}
use Rattle.consumer_grain.specs.Activations.{PlainActivation, holds}
use Rattle.consumer_grain.specs.declared.sub_state.SubState.{SubState}
use Rattle.grain_table.specs.Changes.{activation_at, grain_at}
use Rattle.pubsub_registry.specs.declared.registration.Registration.{Registration}
use Rattle.subscription_table.specs.Table.{is_in, no_entry, no_state}

-- the grain with a number is that of the record with a number
abbrev pub IsOf : List (SubName × Registration) → List (GrainId × PlainActivation) → ℕ → ℕ → Type 0
IsOf names grains n j = same_grain (get_or names n no_entry).1.grain (grain_at grains j) ≡ true

-- no grain knows of the record
abbrev pub IsUnknown : List (SubName × Registration) → List (GrainId × PlainActivation) → ℕ → Type 0
IsUnknown names grains n = (j : ℕ) → j < length grains → IsOf names grains n j → is_in (activation_at grains j).subs n ≡ false

-- nothing of the record is on its way
abbrev pub IsUnheld : List (SubName × Registration) → List (GrainId × PlainActivation) → ℕ → Type 0
IsUnheld names grains n = (j : ℕ) → j < length grains → IsOf names grains n j → holds n (activation_at grains j) ≡ false

-- nothing was ever offered for the record
pub record IsUntouched (names : List (SubName × Registration)) (states : List SubState) (grains : List (GrainId × PlainActivation)) (n : ℕ) : Type 0 where
  pub at_resume : (get_or states n no_state).cursor ≡ (get_or states n no_state).resume
  pub unhandled : (get_or states n no_state).handled ≡ []
  pub unheld : IsUnheld names grains n

-- a grain knows of its own records alone, and an open one that it doesn't know of is untouched
pub record AreKnown (names : List (SubName × Registration)) (states : List SubState) (grains : List (GrainId × PlainActivation)) : Type 0 where
  pub within : (j n : ℕ) → j < length grains → is_in (activation_at grains j).subs n ≡ true → n < length names
  pub theirs : (j n : ℕ) → j < length grains → is_in (activation_at grains j).subs n ≡ true → IsOf names grains n j
  pub untouched : (n : ℕ) → n < length names → (get_or states n no_state).live ≡ true → IsUnknown names grains n → IsUntouched names states grains n
