-- The grains that are placed: a finite map from grains to places, as the list of its entries.
use Rattle.std.specs.Prelude.{ℕ, Bool, ◌==◌, List, length, filter, map, Option}
use Rattle.std.specs.Map.{lookup, remove_entry}
use Rattle.indexmap.specs.IndexMap.{insert_entry}
use Rattle.stream_ident.specs.Name.{grain_lt, same_grain}
use Rattle.stream_ident.specs.declared.ident.GrainId.{GrainId}
use Rattle.activation_directory.specs.declared.place.Place.{Place}
use Rattle.stream_ident.specs.Words.{least}

abbrev pub Placed : Type 0
Placed = List (GrainId × Place)

-- the place of a grain
abbrev pub place_in : Placed → GrainId → Option Place
place_in placed grain = lookup (same_grain grain) placed

-- with this place of a grain, in the stead of the one that it had
abbrev pub with_place : Placed → GrainId → Place → Placed
with_place placed grain place = insert_entry same_grain placed grain place

-- without a grain
abbrev pub without : Placed → GrainId → Placed
without placed grain = remove_entry (same_grain grain) placed

abbrev pub is_on : ℕ → GrainId × Place → Bool
is_on silo entry = entry.1.silo == silo

-- the grains that are placed on a silo
abbrev pub grains_on : ℕ → Placed → List GrainId
grains_on silo placed = map (λ entry. entry.0) (filter (is_on silo) placed)

-- the least of them, by kind and then by key
abbrev pub least_on : ℕ → Placed → Option GrainId
least_on silo placed = least grain_lt (grains_on silo placed)

abbrev pub count_on : ℕ → Placed → ℕ
count_on silo placed = length (grains_on silo placed)
