-- Entries whose numbers are ranked by name, and their keys by rank.
use Rattle.std.specs.Prelude.{◌≡◌, ℕ, ◌<◌, ◌≤◌, Bool, true, false, not, List, length, slice_index, get_or, Option, Some, None}
use Rattle.std.specs.List.{slice_get}
use Rattle.stream_ident.specs.Words.{is_above}
use Rattle.ranked_index.specs.Ranking.{IsRanking}

-- the entry at a rank
abbrev pub entry_at : {E : Type 0} → List E → List ℕ → E → ℕ → E
entry_at entries order d rank = get_or entries (slice_index order rank) d

-- each entry has a rank, and a greater rank has a greater name
pub record AreRanked {E N : Type 0} (name : E → N) (lt : N → N → Bool) (entries : List E) (order : List ℕ) : Type 0 where
  pub long : length order ≡ length entries
  pub ranking : IsRanking order
  pub rises : (d : E) (low high : ℕ) → low < high → high < length order → lt (name (entry_at entries order d low)) (name (entry_at entries order d high)) ≡ true

-- these are the keys of the entries by rank
pub record AreKeys {E : Type 0} (key : E → Option ℕ) (entries : List E) (order : List ℕ) (keys : List (Option ℕ)) : Type 0 where
  pub long : length keys ≡ length order
  pub key_at : (d : E) (rank : ℕ) → rank < length order → get_or keys rank None ≡ key (entry_at entries order d rank)

-- this is kept of the entries by rank
pub record AreByRank {E K : Type 0} (Is : E → K → Type 0) (none : K) (entries : List E) (order : List ℕ) (row : List K) : Type 0 where
  pub long : length row ≡ length order
  pub row_at : (d : E) (rank : ℕ) → rank < length order → Is (entry_at entries order d rank) (get_or row rank none)

-- the first rank whose name is greater than the given one, or the first of all
pub record IsFirstPast {E N : Type 0} (name : E → N) (lt : N → N → Bool) (after : Option N) (entries : List E) (order : List ℕ) (rank : ℕ) : Type 0 where
  pub within : rank ≤ length order
  pub before : (d : E) (i : ℕ) → i < rank → is_above lt after (name (entry_at entries order d i)) ≡ false
  pub past : (d : E) (i : ℕ) → rank ≤ i → i < length order → is_above lt after (name (entry_at entries order d i)) ≡ true

abbrev pub some_up_to : {E N : Type 0} → (E → N) → (N → N → Bool) → N → Option E → Bool
some_up_to name lt a None = false
some_up_to name lt a (Some entry) = not (lt a (name entry))

-- there is an entry with this number, and its name is not greater than this one
abbrev pub is_up_to : {E N : Type 0} → (E → N) → (N → N → Bool) → List E → N → ℕ → Bool
is_up_to name lt entries a number = some_up_to name lt a (slice_get entries number)
