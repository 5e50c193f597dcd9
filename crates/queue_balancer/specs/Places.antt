-- Places for queues: a list of silos that is to be the new silos in some order.
use Rattle.std.specs.Prelude.{◌≡◌, ℕ, ◌<◌, ◌≤◌, Bool, not, nat_lt, List, ◌++◌, length, slice_index, ◌≢◌, filter}
use Rattle.queue_balancer.specs.Balance.{count, floor, IsOnLive, IsEven}

-- whether a silo has more queues than this
abbrev pub has_more : ℕ → List ℕ → ℕ → Bool
has_more least queues silo = nat_lt least (count silo queues)

-- those that have more first
abbrev pub order_of : ℕ → List ℕ → List ℕ → List ℕ
order_of least queues live = filter (has_more least queues) live ++ filter (λ silo. not (has_more least queues silo)) live

-- an even assignment to live silos in some order, with as many places on each as it has queues already,
-- where the old assignment is one
pub record ArePlaces (old live places : List ℕ) : Type 0 where
  pub whole : length places ≡ length old
  pub on_live : IsOnLive live places
  pub even : IsEven (floor old live) live places
  pub enough : IsOnLive live old → IsEven (floor old live) live old → (silo : ℕ) → count silo old ≤ count silo places

-- `new` are the places in an order in which a queue moves only where its old silo has fewer places than
-- it had queues
pub record KeepsOld (old places new : List ℕ) : Type 0 where
  pub whole : length new ≡ length old
  pub same : (silo : ℕ) → count silo new ≡ count silo places
  pub moves : (queue : ℕ) → queue < length old → slice_index new queue ≢ slice_index old queue → count (slice_index old queue) new < count (slice_index old queue) old
