-- Numbers by rank, and ranks by number.
use Rattle.std.specs.Prelude.{◌≡◌, ◌≢◌, ℕ, ◌<◌, ◌≤◌, List, length, slice_index}

-- the order holds each number below its length once, at this rank
pub record IsInverse (order : List ℕ) (rank_of : ℕ → ℕ) : Type 0 where
  pub number_within : (rank : ℕ) → rank < length order → slice_index order rank < length order
  pub back : (rank : ℕ) → rank < length order → rank_of (slice_index order rank) ≡ rank
  pub rank_within : (number : ℕ) → number < length order → rank_of number < length order
  pub forth : (number : ℕ) → number < length order → slice_index order (rank_of number) ≡ number

-- each number below the length of the order has one rank
pub record IsRanking (order : List ℕ) : Type 0 where
  pub rank_of : ℕ → ℕ
  pub inverse : IsInverse order rank_of

-- the ranks of an order, by number
pub record AreRanks (order ranks : List ℕ) : Type 0 where
  pub long : length ranks ≡ length order
  pub inverse : IsInverse order (slice_index ranks)

-- each number from one rank to before another has its rank, and the ranks of all others are as they were
pub record IsReranked (order old new : List ℕ) (from to : ℕ) : Type 0 where
  pub here : (rank : ℕ) → from ≤ rank → rank < to → slice_index new (slice_index order rank) ≡ rank
  pub elsewhere : (number : ℕ) → ((rank : ℕ) → from ≤ rank → rank < to → slice_index order rank ≢ number)
      → slice_index new number ≡ slice_index old number
