-- What a table keeps beside its grains: their numbers, and those of the ready ones, in the order of their names.
use Rattle.std.specs.Prelude.{◌≡◌, ℕ, ◌+◌, ◌^◌, ◌<◌, ◌≤◌, ◌↔◌, Bool, IsTrue, List, filter, length, if◌then◌else◌}
use Rattle.stream_ident.specs.declared.ident.GrainId.{GrainId}
use Rattle.stream_ident.specs.Name.{grain_lt}
use Rattle.consumer_grain.specs.Activations.{PlainActivation}
use Rattle.ranked_index.specs.Listed.{AreListed, AreListedBut, AreRising, IsListed}
use Rattle.ranked_index.specs.Ranked.{AreRanked}
use Rattle.grain_table.specs.Changes.{activation_at}
use Rattle.grain_table.specs.Grains.{PlainGrains, is_ready, is_running, AreDistinct}
use Rattle.grain_table.specs.declared.table.Standing.{Standing}

-- the grain of an entry
abbrev pub name_of : GrainId × PlainActivation → GrainId
name_of entry = entry.0

-- the grain of an entry is ready
abbrev pub is_entry_ready : GrainId × PlainActivation → Bool
is_entry_ready entry = is_ready entry.1

-- these are numbers of grains, in the order of their names
abbrev pub HaveRisingNames : PlainGrains → List ℕ → Type 0
HaveRisingNames grains numbers = AreRising name_of grain_lt grains numbers

-- these are the numbers of the ready grains, in the order of their names
abbrev pub AreReady : PlainGrains → List ℕ → Type 0
AreReady grains numbers = AreListed name_of grain_lt is_entry_ready grains numbers

-- the same, whether or not the grain with this number stands among them
abbrev pub AreReadyBut : ℕ → PlainGrains → List ℕ → Type 0
AreReadyBut number grains numbers = AreListedBut number name_of grain_lt is_entry_ready grains numbers

-- for how many grains a turn runs
abbrev pub running_in : PlainGrains → ℕ
running_in grains = length (filter (λ entry. is_running entry.1) grains)

-- the ready grains are known, with room for all, and the turns that run are counted
pub record IsKept (grains : PlainGrains) (ready : List ℕ) (room running : ℕ) : Type 0 where
  pub are_ready : AreReady grains ready
  pub fits : length grains ≤ room
  pub few : length grains ≤ 2 ^ 63
  pub counted : running ≡ running_in grains

-- so they are, and each grain has its rank by name
pub record IsTable (grains : PlainGrains) (order ready : List ℕ) (room running : ℕ) : Type 0 where
  pub ranked : AreRanked name_of grain_lt grains order
  pub kept : IsKept grains ready room running

-- what is kept of an activation
abbrev pub standing_of : PlainActivation → Standing
standing_of a = record { is_ready = is_ready a; runs = is_running a }

-- the ready grains and the turns are as if the grain with this number stood as before
pub record IsKeptBut (number : ℕ) (before : Standing) (grains : PlainGrains) (ready : List ℕ) (room running : ℕ) : Type 0 where
  pub within : number < length grains
  pub distinct : AreDistinct grains
  pub are_ready : AreReadyBut number grains ready
  pub was_ready : IsTrue before.is_ready ↔ IsListed ready number
  pub fits : length grains ≤ room
  pub few : length grains ≤ 2 ^ 63
  pub counted : running + (if is_running (activation_at grains number) then 1 else 0) ≡ running_in grains + (if before.runs then 1 else 0)
