-- Which stream each subscription is of, and what an index of them by stream holds.
use Rattle.std.specs.Prelude.{◌≡◌, ℕ, Some, List, Contains, get_or, map, slice_get, true}
use Rattle.std.specs.Map.{keys_of}
use Rattle.stream_ident.specs.SubName.{same_sub}
use Rattle.stream_ident.specs.declared.ident.StreamId.{StreamId}
use Rattle.stream_ident.specs.declared.ident.SubName.{SubName}
use Rattle.stream_ident.specs.declared.ident.SubName.TheVariants as name
use Rattle.pubsub_registry.specs.Ascending.{IsAscending}
use Rattle.pubsub_registry.specs.declared.registration.Registration.{Registration}

-- the names with their streams
abbrev pub streams_of : List (SubName × Registration) → List (SubName × StreamId)
streams_of names = map (λ entry. (entry.0, entry.1.stream)) names

-- the names at these places
abbrev pub names_at : List SubName → List ℕ → List SubName
names_at subs numbers = map (λ number. get_or subs number (name.Explicit 0)) numbers

-- the places at which the stream stands, from that of the least name to that of the greatest
pub record IsRowOf (subs : List SubName) (streams : List StreamId) (stream : StreamId) (row : List ℕ) : Type 0 where
  pub ascending : IsAscending (names_at subs row)
  pub theirs : (number : ℕ) → Contains row number → slice_get streams number ≡ Some stream
  pub complete : (number : ℕ) → slice_get streams number ≡ Some stream → Contains row number

-- the numbers of a stream's subscriptions, in the order of their names
abbrev pub AreNumbersOf : List (SubName × Registration) → StreamId → List ℕ → Type 0
AreNumbersOf names = IsRowOf (keys_of names) (map (λ entry. entry.1.stream) names)

-- each stream has the row of its numbers
abbrev pub IsIndexed : List (SubName × Registration) → (StreamId → List ℕ) → Type 0
IsIndexed names row = (stream : StreamId) → AreNumbersOf names stream (row stream)

-- the subscription with a number is of the stream
abbrev pub IsOn : List (SubName × Registration) → StreamId → ℕ → Type 0
IsOn names stream number = slice_get (map (λ entry. entry.1.stream) names) number ≡ Some stream

-- no name stands twice
abbrev pub AreUnique : List (SubName × Registration) → Type 0
AreUnique names = (i j : ℕ) (a b : SubName × Registration) → slice_get names i ≡ Some a → slice_get names j ≡ Some b → same_sub a.0 b.0 ≡ true → i ≡ j
