-- Where a tag stands in a list of tags.
use Rattle.std.specs.Prelude.{◌≡◌, ◌≢◌, ℕ, ◌≤◌, ◌<◌, List, length, slice_index}

-- no place between two holds the tag: none at or after `from` and below `end`
abbrev pub IsAbsentBetween : List ℕ → ℕ → ℕ → ℕ → Type 0
IsAbsentBetween tags from end tag = (place : ℕ) → from ≤ place → place < end → slice_index tags place ≢ tag

-- the first place at or after `from` that holds the tag
pub record IsFirstFrom (tags : List ℕ) (from tag place : ℕ) : Type 0 where
  pub reached : from ≤ place
  pub within : place < length tags
  pub found : slice_index tags place ≡ tag
  pub before : IsAbsentBetween tags from place tag
