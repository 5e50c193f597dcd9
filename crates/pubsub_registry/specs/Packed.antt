-- Subscriptions as they are kept: each stream and each grain once, and rows of their numbers.
use Rattle.std.specs.Prelude.{◌≡◌, ℕ, ◌<◌, ◌≤◌, ◌^◌, ◌==◌, ◌&&◌, Bool, false, List, ◌++◌, length, get_or, map}
use Rattle.std.specs.List.{AllByRecursion, IsDistinct}
use Rattle.std.specs.Map.{keys_of}
use Rattle.std.specs.declared.vec.Vec.{Vec}
use Rattle.indexmap.specs.IndexMap.{IndexMap}
use Rattle.stream_ident.specs.Name.{same_grain, same_stream}
use Rattle.stream_ident.specs.declared.ident.GrainId.{GrainId}
use Rattle.stream_ident.specs.declared.ident.StreamId.{StreamId}
use Rattle.stream_ident.specs.declared.ident.SubName.{SubName}
use Rattle.stream_ident.specs.declared.ident.SubName.TheVariants as name
use Rattle.pubsub_registry.specs.Index.{IsIndexed}
use Rattle.pubsub_registry.specs.Registry.{no_entry}
use Rattle.pubsub_registry.specs.Rows.{row_of}
use Rattle.pubsub_registry.specs.declared.packed.Key.{Key}
use Rattle.pubsub_registry.specs.declared.packed.Key.TheVariants.{Explicit, Implicit}
use Rattle.pubsub_registry.specs.declared.packed.Row.{Row}
use Rattle.pubsub_registry.specs.declared.registration.Registration.{Registration}

-- the streams and the grains, each in the order of its numbers
pub record Ids : Type 0 where
  pub streams : List StreamId
  pub grains : List GrainId

abbrev pub ids_in : {V W S T : Type 0} → IndexMap StreamId V S → IndexMap GrainId W T → Ids
ids_in streams grains = record { streams = keys_of streams.entries; grains = keys_of grains.entries }

abbrev pub stream_at : Ids → ℕ → StreamId
stream_at ids number = get_or ids.streams number no_entry.1.stream

abbrev pub grain_at : Ids → ℕ → GrainId
grain_at ids number = get_or ids.grains number no_entry.1.grain

abbrev pub name_by : Ids → Key → SubName
name_by ids (Explicit number) = name.Explicit number
name_by ids (Implicit grain stream) = name.Implicit (grain_at ids grain).kind (stream_at ids stream)

abbrev pub registration_by : Ids → Row → Registration
registration_by ids row =
    record { stream = stream_at ids row.stream; grain = grain_at ids row.grain; start = row.start; is_open = row.is_open }

abbrev pub entry_by : Ids → Key × Row → SubName × Registration
entry_by ids entry = (name_by ids entry.0, registration_by ids entry.1)

-- the names with their registrations
abbrev pub entries_by : Ids → List (Key × Row) → List (SubName × Registration)
entries_by ids rows = map (entry_by ids) rows

-- the key of a name, by the numbers of its grain and its stream
abbrev pub key_of : SubName → ℕ → ℕ → Key
key_of (name.Explicit number) grain stream = Explicit number
key_of (name.Implicit kind of_stream) grain stream = Implicit grain stream

-- an implicit name is of the registration's stream, which the grain of the kind with the stream's key consumes
abbrev pub IsNameOf : Registration → SubName → Type 0
IsNameOf registration (name.Explicit number) = Unit {0}
IsNameOf registration (name.Implicit kind stream) =
    (registration.stream ≡ stream) × (registration.grain ≡ record { kind = kind; key = stream.key })

-- equality of keys
abbrev pub same_key : Key → Key → Bool
same_key (Explicit m) (Explicit n) = m == n
same_key (Explicit m) (Implicit grain stream) = false
same_key (Implicit grain stream) (Explicit n) = false
same_key (Implicit grain stream) (Implicit other_grain other) = grain == other_grain && stream == other

-- these numbers are given, and the grain of an implicit name has the stream's key
abbrev pub IsKeyWithin : Ids → Key → Type 0
IsKeyWithin ids (Explicit number) = Unit {0}
IsKeyWithin ids (Implicit grain stream) =
    (grain < length ids.grains) × (stream < length ids.streams) × ((grain_at ids grain).key ≡ (stream_at ids stream).key)

abbrev pub IsRowWithin : Ids → Row → Type 0
IsRowWithin ids row = (row.stream < length ids.streams) × (row.grain < length ids.grains)

abbrev pub IsEntryWithin : Ids → Key × Row → Type 0
IsEntryWithin ids entry = IsKeyWithin ids entry.0 × IsRowWithin ids entry.1

-- some keys more, each with this value, or none
pub record IsGrown {K V : Type 0} (value : V) (old new : List (K × V)) : Type 0 where
  pub more : List K
  pub is : new ≡ old ++ map (λ (key : K). (key, value)) more

-- no stream and no grain stands twice, each has a number of 32 bits, all that is named is there, and each stream has the
-- row of its numbers
pub record IsPacked {H S W T : Type 0} (by_stream : IndexMap StreamId (Vec ℕ H) S) (grains : IndexMap GrainId W T) (rows : List (Key × Row)) : Type 0 where
  pub streams_apart : IsDistinct same_stream (keys_of by_stream.entries)
  pub grains_apart : IsDistinct same_grain (keys_of grains.entries)
  pub few_streams : length by_stream.entries ≤ 2 ^ 32
  pub few_grains : length grains.entries ≤ 2 ^ 32
  pub within : AllByRecursion (IsEntryWithin (ids_in by_stream grains)) rows
  pub indexed : IsIndexed (entries_by (ids_in by_stream grains) rows) (row_of same_stream by_stream)
