-- What is kept of subscriptions gives their names and registrations: those that were there, one more, one closed, and a front.
use Rattle.pubsub_registry.proofs.Prelude.{◌≡◌, ◌∙◌, ℕ, zero, suc, ◌<◌, ◌≤◌, ◌^◌, Bool, true, false, ◌==◌, List, [], ◌∷◌, ◌++◌, length, get_or, map, Option, Some, None, if◌then◌else◌, insert, refl, sym, ap, subst, arith, true≢false, and_from, and_parts, cases_order, eqb-true, eq-eqb, false_from_ne_true, ltb-false, append-nil, get_or_append_left, length-map, map-append, fails_before_first, get_or_from_slice_get, slice_get-get_or, slice_get-map, slice_get_within, AllByRecursion, position_or_len, keys_of, lookup, values_of, option_map, ◌⊎◌, ⊎_elim, is_some, none_from_is_some, slice_get, position, nat_lt, Result, Ok, Err, IfNone, OnErr, OnOk, same_grain-refl, same_stream-refl, same_sub-equal, same_sub-refl, same_grain, same_stream, same_sub, change_at, changed_value, first_at, StreamId, SubName}
use Rattle.std.specs.List.{IsDistinct}
use Rattle.std.specs.declared.vec.Vec.{Vec}
use Rattle.std.proofs.lemmas.List.{length-append, map-id}
use Rattle.std.proofs.lemmas.Map.Entries.{length-keys_of}
use Rattle.std.proofs.lemmas.Map.Keys.{apart_from_distinct}
use Rattle.std.proofs.lemmas.List.Quantifiers.{position-Some}
use Rattle.std.proofs.lemmas.Simd.{map-map}
use Rattle.indexmap.specs.IndexMap.{IndexMap, set_value_at}
use Rattle.stream_ident.specs.declared.ident.GrainId.{GrainId}
use Rattle.stream_ident.specs.declared.ident.SubName.TheVariants as name
use Rattle.indexmap.proofs.MapLemmas.{some_index}
use Rattle.stream_ident.proofs.EachOf.{All-push}
use Rattle.stream_ident.proofs.FirstLemmas.{position-key}
use Rattle.stream_ident.proofs.WordLemmas.{cond_none}
use Rattle.pubsub_registry.specs.Ascending.{IsPlaceOf}
use Rattle.pubsub_registry.specs.Index.{names_at, AreUnique, IsIndexed}
use Rattle.pubsub_registry.specs.Packed.{entries_by, entry_by, grain_at, ids_in, key_of, name_by, registration_by, same_key, stream_at, Ids, IsEntryWithin, IsGrown, IsKeyWithin, IsNameOf, IsPacked, IsRowWithin}
use Rattle.pubsub_registry.specs.Registry.{closed_registration, no_entry}
use Rattle.pubsub_registry.specs.Rows.{row_of, values_in, ChangesRow, KeepsRows}
use Rattle.pubsub_registry.specs.contracts.packed.KeyPartialEq.TheImpl as key_equality
use Rattle.pubsub_registry.specs.declared.packed.Key.{Key}
use Rattle.pubsub_registry.specs.declared.packed.Key.TheVariants.{Explicit, Implicit}
use Rattle.pubsub_registry.specs.declared.packed.Row.{Row}
use Rattle.pubsub_registry.specs.declared.registration.Registration.{Registration}
use Rattle.pubsub_registry.proofs.Elements.{slice_get-last}
use Rattle.pubsub_registry.proofs.Entries.{Names, place_in, placed-valued, stands-placed}
use Rattle.pubsub_registry.proofs.IndexLemmas.{indexed-closed, indexed-push, indexed-same}

abbrev Rows : Type 0
Rows = List (Key × Row)

pub key-slice : {K V : Type 0} (entries : List (K × V)) (n : ℕ) (entry : K × V) → slice_get entries n ≡ Some entry → slice_get (keys_of entries) n ≡ Some entry.0
key-slice {K} {V} entries n entry at = slice_get-map (λ (e : K × V). e.0) entries n ∙ ap (option_map (λ (e : K × V). e.0)) at

-- ---- the number of a key

pub key-found : {K : Type 0} (same : K → K → Bool) → ((a b : K) → same a b ≡ true → a ≡ b) → (keys : List K) (key : K) (n : ℕ) → position (same key) keys ≡ Some n → slice_get keys n ≡ Some key
key-found same equal keys key n found =
    let first = position-Some (same key) keys n key found in
    slice_get-get_or keys n key first.0 ∙ ap Some (sym (equal key (get_or keys n key) first.1))

module _ {K : Type 0} (same : K → K → Bool) (reflexive : (a : K) → same a a ≡ true) where
  pub key-missing : (keys : List K) (key : K) → position (same key) keys ≡ None → (n : ℕ) → slice_get keys n ≡ Some key → ⊥
  key-missing keys key none n at =
      let whole = ltb-false (position_or_len (same key) keys) (length keys) (cond_none (nat_lt (position_or_len (same key) keys) (length keys)) (position_or_len (same key) keys) None none).0 in
      let within = slice_get_within keys n key at in
      let other = fails_before_first (same key) keys n key (omega (arith, whole, within)) in
      true≢false (sym (reflexive key) ∙ ap (same key) (sym (get_or_from_slice_get keys n key key at)) ∙ other)

  -- no key has two numbers
  pub numbered-once : (keys : List K) → IsDistinct same keys → (m n : ℕ) (key : K) → slice_get keys m ≡ Some key → slice_get keys n ≡ Some key → m ≡ n
  numbered-once keys distinct m n key at-m at-n =
      ⊎_elim (λ (is : m ≡ n). is) (λ (other : (m < n) ⊎ (n < m)). absurd (⊎_elim (apart m n at-m at-n) (apart n m at-n at-m) other)) (cases_order m n)
    where
      apart : (i j : ℕ) → slice_get keys i ≡ Some key → slice_get keys j ≡ Some key → i < j → ⊥
      apart i j at-i at-j less =
          true≢false (sym (reflexive key) ∙ (λ k. same (sym (get_or_from_slice_get keys i key key at-i) k) (sym (get_or_from_slice_get keys j key key at-j) k))
          ∙ apart_from_distinct same keys i j key distinct less (slice_get_within keys j key at-j))

-- ---- some keys more

module _ {K V : Type 0} where
  pub grown-same : (value : V) (old new : List (K × V)) → new ≡ old → IsGrown value old new
  grown-same value old new same = record { more = []; is = same ∙ sym (append-nil old) }

  -- one is the last
  pub last-key : (old new : List (K × V)) (key : K) (value : V) → new ≡ old ++ (key, value) ∷ [] → slice_get (keys_of new) (length old) ≡ Some key
  last-key old new key value is =
      key-slice new (length old) (key, value) (ap (λ (entries : List (K × V)). slice_get entries (length old)) is ∙ slice_get-last old (key, value))

-- the values where there is a row of none for each
pub values-grown : {K V H : Type 0} (test : K → Bool) (row : Vec V H) (old new : List (K × Vec V H)) → row.items ≡ [] → IsGrown row old new → values_in (lookup test new) ≡ values_in (lookup test old)
values-grown {K} {V} {H} test row old new empty grown = ap (λ (entries : List (K × Vec V H)). values_in (lookup test entries)) grown.is ∙ front old
  where
    none : (keys : List K) → values_in (lookup test (map (λ (key : K). (key, row)) keys)) ≡ []
    none [] = refl
    none (key ∷ keys) =
        elim (test key) as (λ b. values_in (if b then Some row else lookup test (map (λ (key : K). (key, row)) keys)) ≡ []) [ true ↦ empty | false ↦ none keys ]

    front : (old : List (K × Vec V H)) → values_in (lookup test (old ++ map (λ (key : K). (key, row)) grown.more)) ≡ values_in (lookup test old)
    front [] = none grown.more
    front (entry ∷ old) =
        elim (test entry.0) as (λ b. values_in (if b then Some entry.1 else lookup test (old ++ map (λ (key : K). (key, row)) grown.more)) ≡ values_in (if b then Some entry.1 else lookup test old)) [
          | true ↦ refl
          | false ↦ front old
        ]

-- a list is the front of another
abbrev IsFront : {X : Type 0} → List X → List X → Type 0
IsFront {X} old new = (more : List X) × (new ≡ old ++ more)

front-keys : {K V : Type 0} (value : V) (old new : List (K × V)) → IsGrown value old new → IsFront (keys_of old) (keys_of new)
front-keys {K} {V} value old new grown =
    (grown.more, ap keys_of grown.is ∙ map-append (λ (entry : K × V). entry.0) old (map (λ (key : K). (key, value)) grown.more) ∙ ap (λ (keys : List K). keys_of old ++ keys) (map-map (λ (entry : K × V). entry.0) (λ (key : K). (key, value)) grown.more ∙ map-id grown.more))

module _ {X : Type 0} (old new : List X) (front : IsFront old new) where
  front-length : length old ≤ length new
  front-length = let size = ap length front.1 in omega (arith, size, length-append old front.0)

  front-at : (n : ℕ) (d : X) → n < length old → get_or new n d ≡ get_or old n d
  front-at n d within = ap (λ (xs : List X). get_or xs n d) front.1 ∙ get_or_append_left old front.0 d n within

-- ---- what was there is as it was

module _ (old new : Ids) (streams : IsFront old.streams new.streams) (grains : IsFront old.grains new.grains) where
  stream-kept : (n : ℕ) → n < length old.streams → stream_at new n ≡ stream_at old n
  stream-kept n within = front-at old.streams new.streams streams n no_entry.1.stream within

  grain-kept : (n : ℕ) → n < length old.grains → grain_at new n ≡ grain_at old n
  grain-kept n within = front-at old.grains new.grains grains n no_entry.1.grain within

  key-more : (key : Key) → IsKeyWithin old key → IsKeyWithin new key
  key-more (Explicit number) within = tt
  key-more (Implicit grain stream) within =
      let more_grains = front-length old.grains new.grains grains in
      let more_streams = front-length old.streams new.streams streams in (
        omega (arith, more_grains, within.0),
        omega (arith, more_streams, within.1),
        ap (λ (g : GrainId). g.key) (grain-kept grain within.0) ∙ within.2 ∙ sym (ap (λ (s : StreamId). s.key) (stream-kept stream within.1)),
      )

  key-kept : (key : Key) → IsKeyWithin old key → name_by new key ≡ name_by old key
  key-kept (Explicit number) within = refl
  key-kept (Implicit grain stream) within =
      let kinds = ap (λ (g : GrainId). g.kind) (grain-kept grain within.0) in
      let same = stream-kept stream within.1 in
      λ i. name.Implicit (kinds i) (same i)

  row-more : (row : Row) → IsRowWithin old row → IsRowWithin new row
  row-more row within =
      let more_grains = front-length old.grains new.grains grains in
      let more_streams = front-length old.streams new.streams streams in
      (omega (arith, more_streams, within.0), omega (arith, more_grains, within.1))

  row-kept : (row : Row) → IsRowWithin old row → registration_by new row ≡ registration_by old row
  row-kept row within =
      let stream = stream-kept row.stream within.0 in
      let grain = grain-kept row.grain within.1 in
      λ i. record { stream = stream i; grain = grain i; start = row.start; is_open = row.is_open }

  pub entries-kept : (rows : Rows) → AllByRecursion (IsEntryWithin old) rows → entries_by new rows ≡ entries_by old rows
  entries-kept [] within = refl
  entries-kept (entry ∷ rows) within =
      let key = key-kept entry.0 within.0.0 in
      let row = row-kept entry.1 within.0.1 in
      let rest = entries-kept rows within.1 in
      λ i. (key i, row i) ∷ rest i

  pub rows-more : (rows : Rows) → AllByRecursion (IsEntryWithin old) rows → AllByRecursion (IsEntryWithin new) rows
  rows-more [] within = tt
  rows-more (entry ∷ rows) within = ((key-more entry.0 within.0.0, row-more entry.1 within.0.1), rows-more rows within.1)

-- ---- keys and names

abbrev pub key_equal : Key → Key → Bool
key_equal = key_equality.ghosts.eq

key_equal-at : (a b : Key) → key_equal a b ≡ same_key a b
key_equal-at (Explicit m) (Explicit n) = refl
key_equal-at (Explicit m) (Implicit grain stream) = refl
key_equal-at (Implicit grain stream) (Explicit n) = refl
key_equal-at (Implicit grain stream) (Implicit other_grain other) = refl

pub key_equal-is : key_equal ≡ same_key
key_equal-is = λ i a b. key_equal-at a b i

same_key-equal : (a b : Key) → same_key a b ≡ true → a ≡ b
same_key-equal (Explicit m) (Explicit n) same = ap Explicit (eqb-true m n same)
same_key-equal (Explicit m) (Implicit grain stream) same = absurd (true≢false (sym same))
same_key-equal (Implicit grain stream) (Explicit n) same = absurd (true≢false (sym same))
same_key-equal (Implicit grain stream) (Implicit other_grain other) same =
    let parts = and_parts (grain == other_grain) (stream == other) same in
    let grains = eqb-true grain other_grain parts.0 in
    let streams = eqb-true stream other parts.1 in
    λ i. Implicit (grains i) (streams i)

same_key-refl : (a : Key) → same_key a a ≡ true
same_key-refl (Explicit m) = eq-eqb m m refl
same_key-refl (Implicit grain stream) =
    and_from (grain == grain) (stream == stream) (eq-eqb grain grain refl) (eq-eqb stream stream refl)

abbrev kind_in : SubName → List ℕ
kind_in (name.Explicit number) = []
kind_in (name.Implicit kind stream) = kind

abbrev is_explicit : SubName → Bool
is_explicit (name.Explicit number) = true
is_explicit (name.Implicit kind stream) = false

abbrev stream_in : SubName → StreamId
stream_in (name.Explicit number) = no_entry.1.stream
stream_in (name.Implicit kind stream) = stream

module _ (ids : Ids) where
  stream-read : (n : ℕ) (stream : StreamId) → n < length ids.streams → stream_at ids n ≡ stream → slice_get ids.streams n ≡ Some stream
  stream-read n stream within is = slice_get-get_or ids.streams n no_entry.1.stream within ∙ ap Some is

  -- the grain of an implicit name
  grain-named : (g n : ℕ) (kind : List ℕ) (stream : StreamId) → IsKeyWithin ids (Implicit g n) → name_by ids (Implicit g n) ≡ name.Implicit kind stream → slice_get ids.grains g ≡ Some (record { kind = kind; key = stream.key })
  grain-named g n kind stream within same =
      let kinds : (grain_at ids g).kind ≡ kind = ap kind_in same in
      let keys : (grain_at ids g).key ≡ stream.key = within.2 ∙ ap (λ (s : StreamId). s.key) (ap stream_in same) in
      let whole : grain_at ids g ≡ record { kind = kind; key = stream.key } = λ i. record { kind = kinds i; key = keys i } in
      slice_get-get_or ids.grains g no_entry.1.grain within.0 ∙ ap Some whole

  -- the key of an implicit name
  pub name-made : (kind : List ℕ) (stream : StreamId) (g n : ℕ) → slice_get ids.grains g ≡ Some (record { kind = kind; key = stream.key }) → slice_get ids.streams n ≡ Some stream
      → IsKeyWithin ids (Implicit g n) × (name_by ids (Implicit g n) ≡ name.Implicit kind stream)
  name-made kind stream g n of_grain of_stream =
      let grain : grain_at ids g ≡ record { kind = kind; key = stream.key } = get_or_from_slice_get ids.grains g (record { kind = kind; key = stream.key }) no_entry.1.grain of_grain in
      let own : stream_at ids n ≡ stream = get_or_from_slice_get ids.streams n stream no_entry.1.stream of_stream in (
        (
          slice_get_within ids.grains g (record { kind = kind; key = stream.key }) of_grain,
          slice_get_within ids.streams n stream of_stream,
          ap (λ (g : GrainId). g.key) grain ∙ sym (ap (λ (s : StreamId). s.key) own),
        ),
        λ i. name.Implicit (grain i).kind (own i),
      )

  -- the key of the name of a registration
  pub key-made : (s : SubName) (registration : Registration) (key : Key) (g n : ℕ) → key ≡ key_of s g n → IsNameOf registration s → slice_get ids.grains g ≡ Some registration.grain → slice_get ids.streams n ≡ Some registration.stream
      → IsKeyWithin ids key × (name_by ids key ≡ s)
  key-made s registration key g n is own of_grain of_stream = subst (λ (key : Key). IsKeyWithin ids key × (name_by ids key ≡ s)) (sym is) (made s own)
    where
      made : (s : SubName) → IsNameOf registration s → IsKeyWithin ids (key_of s g n) × (name_by ids (key_of s g n) ≡ s)
      made (name.Explicit number) own = (tt, refl)
      made (name.Implicit kind stream) own = name-made kind stream g n (of_grain ∙ ap Some own.1) (of_stream ∙ ap Some own.0)

  pub row-made : (registration : Registration) (g n : ℕ) → slice_get ids.grains g ≡ Some registration.grain → slice_get ids.streams n ≡ Some registration.stream
      → IsRowWithin ids (record { stream = n; grain = g; start = registration.start; is_open = registration.is_open })
      × (registration_by ids (record { stream = n; grain = g; start = registration.start; is_open = registration.is_open }) ≡ registration)
  row-made registration g n of_grain of_stream =
      let grain : grain_at ids g ≡ registration.grain = get_or_from_slice_get ids.grains g registration.grain no_entry.1.grain of_grain in
      let stream : stream_at ids n ≡ registration.stream = get_or_from_slice_get ids.streams n registration.stream no_entry.1.stream of_stream in (
        (slice_get_within ids.streams n registration.stream of_stream, slice_get_within ids.grains g registration.grain of_grain),
        λ i. record { stream = stream i; grain = grain i; start = registration.start; is_open = registration.is_open },
      )

  -- a name whose stream or grain isn't there has no key
  pub no-key : (s : SubName) (kind : List ℕ) (stream : StreamId) → s ≡ name.Implicit kind stream
      → ((g n : ℕ) → slice_get ids.grains g ≡ Some (record { kind = kind; key = stream.key }) → slice_get ids.streams n ≡ Some stream → ⊥) → (key : Key) → IsKeyWithin ids key → name_by ids key ≡ s → ⊥
  no-key s kind stream is none (Explicit m) within same = true≢false (ap is_explicit (same ∙ is))
  no-key s kind stream is none (Implicit g n) within same =
      none g n (grain-named g n kind stream within (same ∙ is)) (stream-read n stream within.1 (ap stream_in (same ∙ is)))

  -- ---- the place of a name

  pub nowhere-by : (s : SubName) → ((key : Key) → IsKeyWithin ids key → name_by ids key ≡ s → ⊥) → (n : ℕ) (rows : Rows) → AllByRecursion (IsEntryWithin ids) rows
      → None ≡ first_at (λ (entry : SubName × Registration). same_sub s entry.0) n (entries_by ids rows)
  nowhere-by s none n [] within = refl
  nowhere-by s none n (entry ∷ rows) within =
      let here : same_sub s (name_by ids entry.0) ≡ false =
      false_from_ne_true (same_sub s (name_by ids entry.0)) (λ same. none entry.0 within.0.0 (sym (same_sub-equal s (name_by ids entry.0) same))) in
      rw here (nowhere-by s none (suc n) rows within.1)

  module _ (streams : IsDistinct same_stream ids.streams) (grains : IsDistinct same_grain ids.grains) where
    -- no name has two keys
    name_by-once : (a b : Key) → IsKeyWithin ids a → IsKeyWithin ids b → name_by ids a ≡ name_by ids b → a ≡ b
    name_by-once (Explicit m) (Explicit n) in-a in-b same = let numbers : m ≡ n = cc in ap Explicit numbers
    name_by-once (Explicit m) (Implicit grain stream) in-a in-b same = absurd (cc)
    name_by-once (Implicit grain stream) (Explicit n) in-a in-b same = absurd (cc)
    name_by-once (Implicit grain stream) (Implicit other_grain other) in-a in-b same =
        let kind = (grain_at ids other_grain).kind in
        let of_stream = stream_at ids other in
        let own : GrainId = record { kind = kind; key = of_stream.key } in
        let first = numbered-once same_grain same_grain-refl ids.grains grains grain other_grain own (grain-named grain stream kind of_stream in-a same) (grain-named other_grain other kind of_stream in-b refl) in
        let second = numbered-once same_stream same_stream-refl ids.streams streams stream other of_stream (stream-read stream of_stream in-a.1 (ap stream_in same)) (stream-read other of_stream in-b.1 refl) in
        λ i. Implicit (first i) (second i)

    -- a name is that of a key exactly where the keys are the same
    same-key : (s : SubName) (a b : Key) → IsKeyWithin ids a → name_by ids a ≡ s → IsKeyWithin ids b → same_sub s (name_by ids b) ≡ same_key a b
    same-key s a b in-a is in-b = by (same_key a b) refl
      where
        by : (same : Bool) → same_key a b ≡ same → same_sub s (name_by ids b) ≡ same
        by true same = ap (λ (k : Key). same_sub s (name_by ids k)) (sym (same_key-equal a b same)) ∙ ap (same_sub s) is ∙ same_sub-refl s
        by false other = false_from_ne_true (same_sub s (name_by ids b)) (λ same.
            let keys = name_by-once a b in-a in-b (is ∙ same_sub-equal s (name_by ids b) same) in
            true≢false (sym (same_key-refl a) ∙ ap (same_key a) keys ∙ other))

    pub place-by : (s : SubName) (key : Key) → IsKeyWithin ids key → name_by ids key ≡ s → (n : ℕ) (rows : Rows) → AllByRecursion (IsEntryWithin ids) rows
        → first_at (λ (entry : Key × Row). same_key key entry.0) n rows ≡ first_at (λ (entry : SubName × Registration). same_sub s entry.0) n (entries_by ids rows)
    place-by s key in-key is n [] within = refl
    place-by s key in-key is n (entry ∷ rows) within =
        let here = same-key s key entry.0 in-key is within.0.0 in
        let rest = place-by s key in-key is (suc n) rows within.1 in
        λ i. if sym here i then Some n else rest i

    -- a name that isn't there has no key among the rows
    pub absent-key : (s : SubName) (key : Key) → IsKeyWithin ids key × (name_by ids key ≡ s) → (rows : Rows) → AllByRecursion (IsEntryWithin ids) rows → lookup (same_sub s) (entries_by ids rows) ≡ None → lookup (same_key key) rows ≡ None
    absent-key s key named rows within none =
        none_from_is_some (lookup (same_key key) rows)
        (sym (some_index (same_key key) rows) ∙ ap is_some (position-key (same_key key) rows ∙ place-by s key named.0 named.1 0 rows within) ∙ placed-valued s (entries_by ids rows) ∙ ap is_some none)

    -- no name stands twice
    apart-keys : (key : Key) → IsKeyWithin ids key → (rows : Rows) → AllByRecursion (IsEntryWithin ids) rows
        → AllByRecursion (λ (other : Key). same_key key other ≡ false) (keys_of rows) → AllByRecursion (λ (other : SubName). same_sub (name_by ids key) other ≡ false) (keys_of (entries_by ids rows))
    apart-keys key in-key [] within others = tt
    apart-keys key in-key (entry ∷ rows) within others =
        (same-key (name_by ids key) key entry.0 in-key refl within.0.0 ∙ others.0, apart-keys key in-key rows within.1 others.1)

    pub distinct-names : (rows : Rows) → AllByRecursion (IsEntryWithin ids) rows → IsDistinct same_key (keys_of rows) → IsDistinct same_sub (keys_of (entries_by ids rows))
    unfolding IsDistinct
    distinct-names [] within distinct = tt
    distinct-names (entry ∷ rows) within distinct =
        (apart-keys entry.0 within.0.0 rows within.1 distinct.0, distinct-names rows within.1 distinct.1)

pub unique-keys : (names : Names) → IsDistinct same_sub (keys_of names) → AreUnique names
unique-keys names distinct i j a b at-i at-j same =
    numbered-once same_sub same_sub-refl (keys_of names) distinct i j a.0 (key-slice names i a at-i) (key-slice names j b at-j ∙ ap Some (sym (same_sub-equal a.0 b.0 same)))

-- what is so of an option that is none
pub if-none : {A : Type 0} (P : Type 0) (o : Option A) → P → IfNone o P
if-none P None holds = holds
if-none P (Some x) holds = tt

-- and of a result that is an error
pub if-err : {T E : Type 0} (P : Type 0) (r : Result T E) → P → OnErr r P
if-err P (Ok x) holds = tt
if-err P (Err e) holds = holds

-- what follows of either
pub if-either : {T E P Q R : Type 0} (r : Result T E) → OnOk r P → OnErr r Q → (P → R) → (Q → R) → R
if-either (Ok x) ok err first second = first ok
if-either (Err e) ok err first second = second err

-- ---- what is kept

-- with other rows of numbers, and of names
pub packed-rows : {H S W T : Type 0} (by_stream new : IndexMap StreamId (Vec ℕ H) S) (grains : IndexMap GrainId W T) (rows left : Rows) → keys_of new.entries ≡ keys_of by_stream.entries → IsPacked by_stream grains rows
    → AllByRecursion (IsEntryWithin (ids_in by_stream grains)) left → IsIndexed (entries_by (ids_in by_stream grains) left) (row_of same_stream new)
    → IsPacked new grains left × (entries_by (ids_in new grains) left ≡ entries_by (ids_in by_stream grains) left)
packed-rows by_stream new grains rows left same is within indexed =
    let ids : ids_in new grains ≡ ids_in by_stream grains = λ i. record { streams = same i; grains = keys_of grains.entries } in (
      record {
        streams_apart = subst (IsDistinct same_stream) (sym same) is.streams_apart;
        grains_apart = is.grains_apart;
        few_streams = let many = ap length same in let fits = is.few_streams in omega (arith, many, fits, length-keys_of new.entries, length-keys_of by_stream.entries);
        few_grains = is.few_grains;
        within = subst (λ (ids : Ids). AllByRecursion (IsEntryWithin ids) left) (sym ids) within;
        indexed = subst (λ (ids : Ids). IsIndexed (entries_by ids left) (row_of same_stream new)) (sym ids) indexed;
      },
      ap (λ (ids : Ids). entries_by ids left) ids,
    )

-- with more streams and grains, and no more names
pub packed-grown : {H S W T : Type 0} (by_stream new : IndexMap StreamId (Vec ℕ H) S) (grains more : IndexMap GrainId W T) (rows : Rows) (row : Vec ℕ H) (unit : W) → row.items ≡ []
    → IsGrown row by_stream.entries new.entries → IsGrown unit grains.entries more.entries → IsDistinct same_stream (keys_of new.entries) → IsDistinct same_grain (keys_of more.entries)
    → length new.entries ≤ 2 ^ 32 → length more.entries ≤ 2 ^ 32 → IsPacked by_stream grains rows
    → IsPacked new more rows × (entries_by (ids_in new more) rows ≡ entries_by (ids_in by_stream grains) rows)
packed-grown by_stream new grains more rows row unit empty grown grown_too streams_apart grains_apart few_streams few_grains is =
    let streams = front-keys row by_stream.entries new.entries grown in
    let front = front-keys unit grains.entries more.entries grown_too in
    let old = ids_in by_stream grains in
    let ids = ids_in new more in
    let kept = entries-kept old ids streams front rows is.within in (
      record {
        streams_apart = streams_apart;
        grains_apart = grains_apart;
        few_streams = few_streams;
        few_grains = few_grains;
        within = rows-more old ids streams front rows is.within;
        indexed = subst (λ (names : Names). IsIndexed names (row_of same_stream new)) (sym kept)
            (indexed-same (entries_by old rows) (row_of same_stream by_stream) (row_of same_stream new) is.indexed
            (λ other. values-grown (same_stream other) row by_stream.entries new.entries empty grown));
      },
      kept,
    )

-- ---- one more

-- its row is behind the others, and its number is in the row of its stream
pub packed-push : {H S W T : Type 0} (by_stream new : IndexMap StreamId (Vec ℕ H) S) (grains : IndexMap GrainId W T) (rows more : Rows) (key : Key) (row : Row) (s : SubName) (registration : Registration) (at : ℕ) (now : Names) (numbers : List ℕ)
    → IsPacked by_stream grains rows → entries_by (ids_in by_stream grains) rows ≡ now → key ≡ key_of s row.grain row.stream → IsNameOf registration s
    → slice_get (keys_of grains.entries) row.grain ≡ Some registration.grain → slice_get (keys_of by_stream.entries) row.stream ≡ Some registration.stream
    → IsRowWithin (ids_in by_stream grains) row × (registration_by (ids_in by_stream grains) row ≡ registration)
    → numbers ≡ row_of same_stream by_stream registration.stream → IsPlaceOf (names_at (keys_of now) numbers) s at
    → (more ≡ rows ++ (key, row) ∷ []) × ChangesRow same_stream row.stream (λ numbers. insert numbers at (length rows)) by_stream new
    → IsPacked new grains more × (entries_by (ids_in new grains) more ≡ now ++ (s, registration) ∷ [])
packed-push by_stream new grains rows more key row s registration at now numbers is is_now given of_name of_grain there own counted place puts =
    let ids = ids_in by_stream grains in
    let named = key-made ids s registration key row.grain row.stream given of_name of_grain there in
    let same : names_at (keys_of now) numbers ≡ names_at (keys_of (entries_by ids rows)) (row_of same_stream by_stream registration.stream) = λ i. names_at (keys_of (sym is_now i)) (counted i) in
    let pushed : entries_by ids (rows ++ (key, row) ∷ []) ≡ entries_by ids rows ++ (s, registration) ∷ [] =
    map-append (entry_by ids) rows ((key, row) ∷ []) ∙ (λ i. entries_by ids rows ++ (named.1 i, own.1 i) ∷ []) in
    let all = packed-rows by_stream new grains rows (rows ++ (key, row) ∷ []) puts.1.0 is (All-push (IsEntryWithin ids) rows (key, row) is.within (named.0, own.0))
    (subst (λ (names : Names). IsIndexed names (row_of same_stream new)) (sym pushed)
    (indexed-push (entries_by ids rows) (row_of same_stream by_stream) (row_of same_stream new) s registration (length rows) (sym (length-map rows (entry_by ids))) at is.indexed
    (subst (λ (subs : List SubName). IsPlaceOf subs s at) same place) (λ other. puts.1.1 registration.stream other there))) in
    subst (λ (more : Rows). IsPacked new grains more × (entries_by (ids_in new grains) more ≡ now ++ (s, registration) ∷ [])) (sym puts.0)
    (all.0, all.1 ∙ pushed ∙ ap (λ (names : Names). names ++ (s, registration) ∷ []) is_now)

-- what it is where nothing was changed
pub packed-same : {H S W T : Type 0} (by_stream new : IndexMap StreamId (Vec ℕ H) S) (grains : IndexMap GrainId W T) (rows left : Rows) → IsPacked by_stream grains rows → (left ≡ rows) × KeepsRows same_stream by_stream new
    → IsPacked new grains left × (entries_by (ids_in new grains) left ≡ entries_by (ids_in by_stream grains) rows)
packed-same by_stream new grains rows left is keeps =
    let ids = ids_in by_stream grains in
    subst (λ (left : Rows). IsPacked new grains left × (entries_by (ids_in new grains) left ≡ entries_by ids rows)) (sym keeps.0)
    (packed-rows by_stream new grains rows rows keeps.1.0 is is.within (indexed-same (entries_by ids rows) (row_of same_stream by_stream) (row_of same_stream new) is.indexed keeps.1.1))

-- ---- one is closed

abbrev pub closed_row : Row → Row
closed_row row = record row { is_open = false }

entries-closed : (ids : Ids) (rows : Rows) (n : ℕ) (row : Row) → Some row ≡ slice_get (values_of rows) n → entries_by ids (set_value_at rows n (closed_row row)) ≡ change_at closed_registration n (entries_by ids rows)
entries-closed ids [] n row found = refl
entries-closed ids (entry ∷ rows) zero row found =
    let same : row ≡ entry.1 = cc in
    ap (λ (r : Row). (name_by ids entry.0, registration_by ids (closed_row r)) ∷ entries_by ids rows) same
entries-closed ids (entry ∷ rows) (suc n) row found =
    ap (λ (rest : List (SubName × Registration)). entry_by ids entry ∷ rest) (entries-closed ids rows n row found)

within-closed : (ids : Ids) (rows : Rows) (n : ℕ) (row : Row) → Some row ≡ slice_get (values_of rows) n → AllByRecursion (IsEntryWithin ids) rows → AllByRecursion (IsEntryWithin ids) (set_value_at rows n (closed_row row))
within-closed ids [] n row found within = tt
within-closed ids (entry ∷ rows) zero row found within =
    let same : entry.1 ≡ row = cc in
    ((within.0.0, subst (IsRowWithin ids) same within.0.1), within.1)
within-closed ids (entry ∷ rows) (suc n) row found within = (within.0, within-closed ids rows n row found within.1)

pub packed-closed : {H S W T : Type 0} (by_stream : IndexMap StreamId (Vec ℕ H) S) (grains : IndexMap GrainId W T) (rows : Rows) (n : ℕ) (row : Row) (s : SubName) → IsPacked by_stream grains rows
    → Some row ≡ slice_get (values_of rows) n → place_in s (entries_by (ids_in by_stream grains) rows) ≡ Some n
    → IsPacked by_stream grains (set_value_at rows n (closed_row row))
    × (entries_by (ids_in by_stream grains) (set_value_at rows n (closed_row row)) ≡ changed_value same_sub s closed_registration (entries_by (ids_in by_stream grains) rows))
packed-closed by_stream grains rows n row s is found placed =
    let ids = ids_in by_stream grains in
    let left = set_value_at rows n (closed_row row) in
    let closed = entries-closed ids rows n row found ∙ (stands-placed s (entries_by ids rows) n placed).1 in
    let indexed = indexed-closed (entries_by ids rows) (entries_by ids left) s (row_of same_stream by_stream) closed is.indexed in
    ((packed-rows by_stream by_stream grains rows left refl is (within-closed ids rows n row found is.within) indexed).0, closed)

pub within-at : (ids : Ids) (rows : Rows) (n : ℕ) (entry : Key × Row) → slice_get rows n ≡ Some entry → AllByRecursion (IsEntryWithin ids) rows → IsEntryWithin ids entry
within-at ids [] n entry found within = absurd (cc)
within-at ids (first ∷ rows) zero entry found within = let same : first ≡ entry = cc in subst (IsEntryWithin ids) same within.0
within-at ids (first ∷ rows) (suc n) entry found within = within-at ids rows n entry found within.1
