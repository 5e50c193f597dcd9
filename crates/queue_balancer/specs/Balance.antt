-- Queues on silos. A list gives the silo of each queue, and a queue is a place in it.
use Rattle.std.specs.Prelude.{◌≡◌, ◌≢◌, ◌⊎◌, ℕ, ◌+◌, ◌/◌, ◌<◌, ◌≤◌, ◌==◌, List, length, slice_index, count_by, AllPairs}

-- how many entries of the list are this silo
abbrev pub count : ℕ → List ℕ → ℕ
count silo silos = count_by (λ other. other == silo) silos

-- no silo stands twice
abbrev pub HasNoDoubles : List ℕ → Type 0
HasNoDoubles silos = AllPairs (λ one other. one ≢ other) silos

-- how many queues each live silo has at least, where they are spread evenly
abbrev pub floor : List ℕ → List ℕ → ℕ
floor queues live = length queues / length live

-- each silo that has a queue is live
abbrev pub IsOnLive : List ℕ → List ℕ → Type 0
IsOnLive live queues = (silo : ℕ) → 0 < count silo queues → 0 < count silo live

-- each live silo has this many queues or one more
abbrev pub IsEven : ℕ → List ℕ → List ℕ → Type 0
IsEven least live queues =
    (silo : ℕ) → 0 < count silo live → (least ≤ count silo queues) × (count silo queues ≤ least + 1)

-- the silo isn't live, or has more queues than each live silo has at least
abbrev pub MayLose : List ℕ → List ℕ → ℕ → Type 0
MayLose queues live silo = (count silo live ≡ 0) ⊎ (floor queues live < count silo queues)

-- The assignment that a rebalancing makes of the old one, where at least one silo is live: each queue has a
-- live silo, the loads differ by one at most, queues leave only silos that may lose one, and nothing moves
-- where the old assignment is such already.
pub record IsBalanced (old live new : List ℕ) : Type 0 where
  pub whole : length new ≡ length old
  pub on_live : IsOnLive live new
  pub even : IsEven (floor old live) live new
  pub moves : (queue : ℕ) → queue < length old → slice_index new queue ≢ slice_index old queue → MayLose old live (slice_index old queue)
  pub stays : IsOnLive live old → IsEven (floor old live) live old → new ≡ old
