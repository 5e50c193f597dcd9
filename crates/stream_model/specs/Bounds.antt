-- How large the numbers of a partition get.
use Rattle.std.specs.Prelude.{ℕ, ◌<◌, ◌≤◌, List, [], length, Option, Some, None, ⊤}
use Rattle.std.specs.List.{AllByRecursion}
use Rattle.stream_ident.specs.declared.ident.SubName.{SubName}
use Rattle.stream_ident.specs.declared.ident.SubName.TheVariants as name
use Rattle.stream_ident.specs.declared.event.Event.{Event}
use Rattle.stream_ident.specs.declared.limits.TheConstants.{MOST_BLOCKS, MOST_EVENTS, MOST_RISES, MOST_RULES, MOST_SUBS}
use Rattle.stream_model.specs.declared.limits.Limits.{Limits}
use Rattle.stream_model.specs.declared.plain.PlainPartition.{PlainPartition}
use Rattle.stream_model.specs.declared.plain.RunningTurn.{RunningTurn}

-- a name that stands after so many explicit subscriptions
abbrev pub IsGiven : ℕ → SubName → Type 0
IsGiven explicit (name.Explicit number) = number ≤ explicit
IsGiven explicit (name.Implicit kind stream) = ⊤

-- limits that a partition may have
pub record AreLimits (limits : Limits) : Type 0 where
  pub events : limits.events ≤ MOST_EVENTS
  pub subs : limits.subs ≤ MOST_SUBS
  pub rules : limits.rules ≤ MOST_RULES
  pub rises : limits.rises ≤ MOST_RISES

-- positions of the log
abbrev pub AreIn : List Event → List ℕ → Type 0
AreIn log positions = AllByRecursion (λ position. position < length log) positions

abbrev pub running_positions : Option RunningTurn → List ℕ
running_positions None = []
running_positions (Some run) = run.positions

-- The lists never pass their limits, the numbers of turns, activations and generations never pass the rises,
-- no explicit number is ahead of the last, and what waits, runs or is handled lies in the log.
pub record IsWithinLimits (p : PlainPartition) : Type 0 where
  pub limits : AreLimits p.limits
  pub events : length p.log ≤ p.limits.events
  pub batches : p.batches ≤ length p.log
  pub subs : length p.subs ≤ p.limits.subs
  pub explicit : p.explicit ≤ length p.subs
  pub names : AllByRecursion (λ entry. IsGiven p.explicit entry.0) p.subs
  pub handled : AllByRecursion (λ entry. AreIn p.log entry.1.handled) p.subs
  pub blocks : p.blocks ≤ MOST_BLOCKS
  pub rules : length p.rules ≤ p.limits.rules
  pub rises : p.rises ≤ p.limits.rises
  pub turns : p.turns ≤ p.rises
  pub generation : p.generation ≤ p.rises
  pub activations : AllByRecursion (λ entry. entry.1.activation ≤ p.rises) p.grains
  pub waiting : AllByRecursion (λ entry. AllByRecursion (λ d. d.position < length p.log) entry.1.mailbox) p.grains
  pub running : AllByRecursion (λ entry. AreIn p.log (running_positions entry.1.running)) p.grains
