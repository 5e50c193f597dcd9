-- The names of a stream's numbers are those of its subscriptions.
use Rattle.pubsub_registry.proofs.Prelude.{◌≡◌, ◌∙◌, ℕ, ◌<◌, List, length, get_or, map, Option, Some, None, refl, sym, ap, subst, arith, All, Contains, get_or-map, length-map, Contains-get_or, get_or_from_slice_get, none-some, same_Some, slice_get-get_or, slice_get-map, slice_get_within, keys_of, lookup, option_map, slice_get, same_stream-equal, same_stream-refl, same_stream, same_sub, StreamId, SubName}
use Rattle.stream_ident.specs.declared.ident.SubName.TheVariants as name
use Rattle.pubsub_registry.specs.Index.{names_at, AreNumbersOf}
use Rattle.pubsub_registry.specs.Registry.{PlainRegistry, AreSubsOf}
use Rattle.pubsub_registry.specs.declared.registration.Registration.{Registration}
use Rattle.pubsub_registry.proofs.Ascending.{rises}
use Rattle.pubsub_registry.proofs.Elements.{Contains-map}
use Rattle.pubsub_registry.proofs.Entries.{Names, unfound}
use Rattle.pubsub_registry.proofs.IndexLemmas.{row-within, stream_in}
use Rattle.pubsub_registry.proofs.PackedLemmas.{key-slice}

-- a subscription of the stream under this name
abbrev HasEntry : Names → SubName → StreamId → Type 0
HasEntry names s stream = (registration : Registration) × (Contains names (s, registration) × (registration.stream ≡ stream))

-- the name of a subscription, by its place
pub name-is : (names : Names) (n : ℕ) (entry : SubName × Registration) → slice_get names n ≡ Some entry → get_or (keys_of names) n (name.Explicit 0) ≡ entry.0
name-is names n entry found = get_or_from_slice_get (keys_of names) n entry.0 (name.Explicit 0) (key-slice names n entry found)

module _ (names : Names) (stream : StreamId) (row : List ℕ) (is : AreNumbersOf names stream row) where
  abbrev name_of : ℕ → SubName
  name_of n = get_or (keys_of names) n (name.Explicit 0)

  stream-is : (n : ℕ) (found : Option (SubName × Registration)) → slice_get names n ≡ found → slice_get (map stream_in names) n ≡ option_map stream_in found
  stream-is n found at = slice_get-map stream_in names n ∙ ap (option_map stream_in) at

  entry-of : (s : SubName) → Contains (names_at (keys_of names) row) s → HasEntry names s stream
  entry-of s there = by (slice_get names n) refl
    where
      in_row : there.0 < length row
      in_row = let inside = there.1 in omega (arith, inside, length-map row name_of)

      n : ℕ
      n = get_or row there.0 0

      theirs : slice_get (map stream_in names) n ≡ Some stream
      theirs = is.theirs n (Contains-get_or row there.0 0 in_row)

      by : (found : Option (SubName × Registration)) → slice_get names n ≡ found → HasEntry names s stream
      by None none = absurd (none-some stream (sym (stream-is n None none) ∙ theirs))
      by (Some entry) found =
          let own : entry.0 ≡ s = sym (name-is names n entry found) ∙ sym (get_or-map name_of row there.0 0 s in_row) ∙ there.2 in
          let inside : Contains names entry = (n, slice_get_within names n entry found, get_or_from_slice_get names n entry entry found) in
          (entry.1, (subst (λ (s : SubName). Contains names (s, entry.1)) own inside, same_Some entry.1.stream stream (sym (stream-is n (Some entry) found) ∙ theirs)))

  name-at : (s : SubName) (registration : Registration) → Contains names (s, registration) → registration.stream ≡ stream → Contains (names_at (keys_of names) row) s
  name-at s registration there of_stream =
      let n = there.0 in
      let found : slice_get names n ≡ Some (s, registration) = slice_get-get_or names n (s, registration) there.1 ∙ ap Some there.2 in
      subst (Contains (names_at (keys_of names) row)) (name-is names n (s, registration) found)
      (Contains-map name_of row n (is.complete n (stream-is n (Some (s, registration)) found ∙ ap Some of_stream)))

  pub numbers-within : All (λ n. n < length names) row
  numbers-within = row-within (map stream_in names) stream row (length names) (length-map names stream_in) is.theirs

  -- a name that isn't found is not among them
  pub not-among : (s : SubName) → lookup (same_sub s) names ≡ None → Contains (names_at (keys_of names) row) s → ⊥
  not-among s none there =
      let found = entry-of s there in unfound names s found.0 none found.1.0

pub subs-of : (r : PlainRegistry) (stream : StreamId) (row : List ℕ) → AreNumbersOf r.names stream row → AreSubsOf r stream (names_at (keys_of r.names) row)
subs-of r stream row are = record {
  rising = rises (names_at (keys_of r.names) row) are.ascending;
  theirs = λ s there. let found = entry-of r.names stream row are s there in
      (found.0, (found.1.0, ap (same_stream stream) found.1.1 ∙ same_stream-refl stream));
  complete = λ s is. name-at r.names stream row are s is.0 is.1.0 (sym (same_stream-equal stream is.0.stream is.1.1));
}
