-- Rows of values by key.
use Rattle.std.specs.Prelude.{◌≡◌, ℕ, Bool, List, [], Option, Some, None, slice_get, if◌then◌else◌}
use Rattle.std.specs.Map.{keys_of}
use Rattle.std.specs.declared.vec.Vec.{Vec}
use Rattle.indexmap.specs.IndexMap.{IndexMap, get}

abbrev pub values_in : {V H : Type 0} → Option (Vec V H) → List V
values_in None = []
values_in (Some row) = row.items

-- the values at a key, in order: none where the map has no row of it
abbrev pub row_of : {K V H S : Type 0} → (K → K → Bool) → IndexMap K (Vec V H) S → K → List V
row_of same rows key = values_in (get same rows key)

-- the row of the key with this number is changed, and no other
abbrev pub ChangesRow : {K V H S : Type 0} → (K → K → Bool) → ℕ → (List V → List V) → IndexMap K (Vec V H) S → IndexMap K (Vec V H) S → Type 0
ChangesRow {K} same number change old new =
    (keys_of new.entries ≡ keys_of old.entries)
    × ((key other : K) → slice_get (keys_of old.entries) number ≡ Some key → row_of same new other ≡ (if same key other then change (row_of same old key) else row_of same old other))

-- no row is changed
abbrev pub KeepsRows : {K V H S : Type 0} → (K → K → Bool) → IndexMap K (Vec V H) S → IndexMap K (Vec V H) S → Type 0
KeepsRows {K} same old new = (keys_of new.entries ≡ keys_of old.entries) × ((other : K) → row_of same new other ≡ row_of same old other)
