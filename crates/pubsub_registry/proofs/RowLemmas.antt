-- The rows of the streams after the row of a number was changed.
use Rattle.pubsub_registry.proofs.Prelude.{keys-with_value_at, updates-with_value_at, ◌≡◌, ◌∙◌, ℕ, zero, suc, Bool, true, false, cond, List, [], ◌∷◌, Some, if◌then◌else◌, refl, sym, ap, subst, none-some, same_Some, keys_of, values_of, slice_get, same_stream-equal, same_stream-refl, same_stream, StreamId}
use Rattle.std.specs.Cmp.{IsEquivalence, decided}
use Rattle.std.specs.List.{IsDistinct}
use Rattle.std.specs.declared.vec.Vec.{Vec}
use Rattle.std.proofs.lemmas.Map.Entries.{lookup_from_place}
use Rattle.indexmap.specs.IndexMap.{IndexMap, get, with_value_at}
use Rattle.pubsub_registry.specs.Rows.{row_of, values_in, ChangesRow, KeepsRows}

stream_laws : IsEquivalence same_stream
stream_laws = decided same_stream (λ a b. (same_stream-equal a b, λ same. subst (λ other. same_stream a other ≡ true) same (same_stream-refl a)))

entry-of : {K V : Type 0} (entries : List (K × V)) (i : ℕ) (key : K) (value : V) → slice_get (keys_of entries) i ≡ Some key → slice_get (values_of entries) i ≡ Some value → slice_get entries i ≡ Some (key, value)
entry-of [] i key value at there = absurd (none-some key at)
entry-of (entry ∷ entries) zero key value at there =
    let first = same_Some entry.0 key at in
    let second = same_Some entry.1 value there in
    λ i. Some (first i, second i)
entry-of (entry ∷ entries) (suc i) key value at there = entry-of entries i key value at there

module _ {V H S : Type 0} (rows : IndexMap StreamId (Vec V H) S) (i : ℕ) (row : Vec V H) (distinct : IsDistinct same_stream (keys_of rows.entries)) (value : slice_get (values_of rows.entries) i ≡ Some row) where
  pub row-at : (key : StreamId) → slice_get (keys_of rows.entries) i ≡ Some key → row_of same_stream rows key ≡ row.items
  row-at key at =
      ap values_in (lookup_from_place stream_laws rows.entries i key row distinct (entry-of rows.entries i key row at value))

  row-written : (new : Vec V H) (key other : StreamId) → slice_get (keys_of rows.entries) i ≡ Some key
      → row_of same_stream (with_value_at rows i new) other ≡ (if same_stream key other then new.items else row_of same_stream rows other)
  row-written new key other at =
      ap values_in ((updates-with_value_at rows i new stream_laws distinct key row (entry-of rows.entries i key row at value)).0 other) ∙ by (same_stream key other)
    where
      by : (b : Bool) → values_in (cond b (Some new) (get same_stream rows other)) ≡ (if b then new.items else row_of same_stream rows other)
      by true = refl
      by false = refl

  pub changes-row : (change : List V → List V) (new : Vec V H) → new.items ≡ change row.items → ChangesRow same_stream i change rows (with_value_at rows i new)
  changes-row change new changed = (
    keys-with_value_at rows i new,
    λ key other at.
        row-written new key other at ∙ ap (λ items. if same_stream key other then items else row_of same_stream rows other) (changed ∙ ap change (sym (row-at key at))),
  )

  -- a row that is put back as it was
  pub keeps-rows : (new : Vec V H) → new.items ≡ row.items → (key : StreamId) → slice_get (keys_of rows.entries) i ≡ Some key → KeepsRows same_stream rows (with_value_at rows i new)
  keeps-rows new unchanged key at =
      (keys-with_value_at rows i new, λ other. row-written new key other at ∙ by other (same_stream key other) refl)
    where
      by : (other : StreamId) (b : Bool) → same_stream key other ≡ b → (if b then new.items else row_of same_stream rows other) ≡ row_of same_stream rows other
      by other true same = unchanged ∙ sym (row-at key at) ∙ ap (row_of same_stream rows) (same_stream-equal key other same)
      by other false apart = refl
