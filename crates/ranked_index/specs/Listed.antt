-- The numbers of the entries that pass a test, in the order of their names.
use Rattle.std.specs.Prelude.{◌≡◌, ◌≢◌, ℕ, ◌<◌, Bool, true, List, length, slice_index, get_or}
use Rattle.ranked_index.specs.Ranked.{entry_at}

-- numbers of entries, whose names rise
pub record AreRising {E N : Type 0} (name : E → N) (lt : N → N → Bool) (entries : List E) (numbers : List ℕ) : Type 0 where
  pub within : (i : ℕ) → i < length numbers → slice_index numbers i < length entries
  pub rises : (d : E) (low high : ℕ) → low < high → high < length numbers → lt (name (entry_at entries numbers d low)) (name (entry_at entries numbers d high)) ≡ true

-- a number stands among these
pub record IsListed (numbers : List ℕ) (number : ℕ) : Type 0 where
  pub place : ℕ
  pub within : place < length numbers
  pub at : slice_index numbers place ≡ number

-- they are those of the entries that pass, and of no other
pub record AreListed {E N : Type 0} (name : E → N) (lt : N → N → Bool) (passes : E → Bool) (entries : List E) (numbers : List ℕ) : Type 0 where
  pub rising : AreRising name lt entries numbers
  pub passing : (d : E) (i : ℕ) → i < length numbers → passes (entry_at entries numbers d i) ≡ true
  pub listed : (d : E) (n : ℕ) → n < length entries → passes (get_or entries n d) ≡ true → IsListed numbers n

-- the same, whether or not the entry with this number stands among them
pub record AreListedBut {E N : Type 0} (number : ℕ) (name : E → N) (lt : N → N → Bool) (passes : E → Bool) (entries : List E) (numbers : List ℕ) : Type 0 where
  pub rising : AreRising name lt entries numbers
  pub passing : (d : E) (i : ℕ) → i < length numbers → slice_index numbers i ≢ number → passes (entry_at entries numbers d i) ≡ true
  pub listed : (d : E) (n : ℕ) → n < length entries → n ≢ number → passes (get_or entries n d) ≡ true → IsListed numbers n
