-- The index of numbers by stream after a change of the subscriptions.
use Rattle.pubsub_registry.proofs.Prelude.{◌≡◌, ◌∙◌, ℕ, ◌<◌, Bool, true, false, not, List, [], ◌∷◌, ◌++◌, length, take, drop, get_or, map, Some, filter, insert, nat_eq, if◌then◌else◌, refl, sym, ap, subst, arith, All, Contains, true≢false, drop-map, get_or_append_left, get_or_push, length-map, map-append, All-contains_itself, All-head, All-tail, All-weaker, slice_get_within, take-map, keys_of, ⊎_elim, slice_get, same_stream-equal, same_stream-refl, same_stream, same_sub, changed_value, StreamId, SubName}
use Rattle.std.proofs.lemmas.Bool.Decides.{nat_tests}
use Rattle.stream_ident.specs.declared.ident.SubName.TheVariants as name
use Rattle.pubsub_registry.specs.Ascending.{IsAscending, IsPlaceOf}
use Rattle.pubsub_registry.specs.Index.{names_at, AreNumbersOf, IsIndexed, IsRowOf}
use Rattle.pubsub_registry.specs.Registry.{closed_registration}
use Rattle.pubsub_registry.specs.declared.registration.Registration.{Registration}
use Rattle.pubsub_registry.proofs.Ascending.{ascending-insert, ascending-left}
use Rattle.pubsub_registry.proofs.Elements.{Contains-insert_here, Contains-insert, Contains-insert_cases, Contains-filter, Contains-filter_parts, slice_get-cases, slice_get-last, slice_get-left}
use Rattle.pubsub_registry.proofs.Entries.{Names, map-closed}

-- the numbers of a row are places
pub row-within : (streams : List StreamId) (stream : StreamId) (row : List ℕ) (most : ℕ) → length streams ≡ most → ((n : ℕ) → Contains row n → slice_get streams n ≡ Some stream) → All (λ n. n < most) row
row-within streams stream row most are theirs =
    All-weaker (Contains row) (λ n. n < most) (λ n there. let inside : n < length streams = slice_get_within streams n stream (theirs n there) in omega (arith, are, inside)) row
    (All-contains_itself row)

-- a name behind changes none in front of it
names-kept : (subs : List SubName) (s : SubName) (row : List ℕ) → All (λ n. n < length subs) row → names_at (subs ++ s ∷ []) row ≡ names_at subs row
names-kept subs s [] within = refl
names-kept subs s (n ∷ row) within =
    let first = get_or_append_left subs (s ∷ []) (name.Explicit 0) n (All-head (λ n. n < length subs) n row within) in
    λ i. first i ∷ names-kept subs s row (All-tail (λ n. n < length subs) n row within) i

-- its number goes where it goes
names-put : (subs : List SubName) (s : SubName) (number : ℕ) (row : List ℕ) (at : ℕ) → length subs ≡ number → All (λ n. n < length subs) row → names_at (subs ++ s ∷ []) (insert row at number) ≡ insert (names_at subs row) at s
names-put subs s number row at last within =
    let name_of : ℕ → SubName = λ n. get_or (subs ++ s ∷ []) n (name.Explicit 0) in
    map-append name_of (take at row) (number ∷ drop at row)
    ∙ (λ i. sym (take-map name_of at row) i ++ (get_or_push subs s (name.Explicit 0) number last i ∷ sym (drop-map name_of at row) i))
    ∙ ap (λ (names : List SubName). insert names at s) (names-kept subs s row within)

-- the row of a stream with one more subscription, the last
module _ (subs : List SubName) (streams : List StreamId) (number : ℕ) (named : length subs ≡ number) (placed : length streams ≡ number) (stream : StreamId) (s : SubName) where
  within : (row : List ℕ) → ((n : ℕ) → Contains row n → slice_get streams n ≡ Some stream) → All (λ n. n < length subs) row
  within row theirs = row-within streams stream row (length subs) (placed ∙ sym named) theirs

  -- what isn't at the last place was there before
  before : (other : StreamId) (n : ℕ) → (n ≡ number → other ≡ stream → ⊥) → slice_get (streams ++ other ∷ []) n ≡ Some stream → slice_get streams n ≡ Some stream
  before other n apart there =
      ⊎_elim (λ (old : slice_get streams n ≡ Some stream). old) (λ (last : (n ≡ length streams) × (other ≡ stream)). absurd (apart (last.0 ∙ placed) last.1)) (slice_get-cases streams other n stream there)

  -- which is of the stream
  row-put : (row : List ℕ) (at : ℕ) → IsRowOf subs streams stream row → IsPlaceOf (names_at subs row) s at → IsRowOf (subs ++ s ∷ []) (streams ++ stream ∷ []) stream (insert row at number)
  row-put row at is place = record {
    ascending = subst IsAscending (sym (names-put subs s number row at named (within row is.theirs))) (ascending-insert (names_at subs row) s at is.ascending place);
    theirs = λ n there.
        ⊎_elim (λ (same : number ≡ n). subst (λ n. slice_get (streams ++ stream ∷ []) n ≡ Some stream) (placed ∙ same) (slice_get-last streams stream))
        (λ (there : Contains row n). slice_get-left streams stream n stream (is.theirs n there)) (Contains-insert_cases row at number n there);
    complete = λ n there.
        ⊎_elim (λ (there : slice_get streams n ≡ Some stream). Contains-insert row at number n (is.complete n there))
        (λ (last : (n ≡ length streams) × (stream ≡ stream)). subst (Contains (insert row at number)) (sym (last.0 ∙ placed)) (Contains-insert_here row at number)) (slice_get-cases streams stream n stream there);
  }

  -- or of another stream
  row-put_other : (row : List ℕ) (other : StreamId) → (other ≡ stream → ⊥) → IsRowOf subs streams stream row → IsRowOf (subs ++ s ∷ []) (streams ++ other ∷ []) stream row
  row-put_other row other apart is = record {
    ascending = subst IsAscending (sym (names-kept subs s row (within row is.theirs))) is.ascending;
    theirs = λ n there. slice_get-left streams other n stream (is.theirs n there);
    complete = λ n there. is.complete n (before other n (λ _. apart) there);
  }

  -- and without it
  row-cut : (row : List ℕ) → IsRowOf (subs ++ s ∷ []) (streams ++ stream ∷ []) stream row → IsRowOf subs streams stream (filter (λ n. not (nat_eq n number)) row)
  row-cut row is = record {
    ascending = subst IsAscending (names-kept subs s (filter left row) (within (filter left row) theirs)) (ascending-left (λ n. get_or (subs ++ s ∷ []) n (name.Explicit 0)) left row is.ascending);
    theirs = theirs;
    complete = λ n there. Contains-filter left row n (is.complete n (slice_get-left streams stream n stream there)) (stays n (slice_get_within streams n stream there));
  }
    where
      left : ℕ → Bool
      left n = not (nat_eq n number)

      stays : (n : ℕ) → n < length streams → left n ≡ true
      stays n inside = let before : n < number = omega (arith, placed, inside) in grind (arith, nat_tests)

      goes : (n : ℕ) → n ≡ number → left n ≡ true → ⊥
      goes n same stays = grind (arith, nat_tests)

      theirs : (n : ℕ) → Contains (filter left row) n → slice_get streams n ≡ Some stream
      theirs n there =
          let parts = Contains-filter_parts left row n there in
          before stream n (λ (same : n ≡ number) _. goes n same parts.1) (is.theirs n parts.0)

  row-cut_other : (row : List ℕ) (other : StreamId) → (other ≡ stream → ⊥) → IsRowOf (subs ++ s ∷ []) (streams ++ other ∷ []) stream row → IsRowOf subs streams stream row
  row-cut_other row other apart is = record {
    ascending = subst IsAscending (names-kept subs s row (within row theirs)) is.ascending;
    theirs = theirs;
    complete = λ n there. is.complete n (slice_get-left streams other n stream there);
  }
    where
      theirs : (n : ℕ) → Contains row n → slice_get streams n ≡ Some stream
      theirs n there = before other n (λ _. apart) (is.theirs n there)

apart-from : (stream other : StreamId) → same_stream stream other ≡ false → stream ≡ other → ⊥
apart-from stream other isnt same =
    true≢false (sym (same_stream-refl stream) ∙ ap (same_stream stream) same ∙ isnt)

abbrev pub stream_in : SubName × Registration → StreamId
stream_in entry = entry.1.stream

-- a row of names and streams
abbrev IsRowIn : List SubName × List StreamId → StreamId → List ℕ → Type 0
IsRowIn lists = IsRowOf lists.0 lists.1

-- the row of a stream
pub indexed-row : (names now : Names) (rows : StreamId → List ℕ) (stream : StreamId) (row : List ℕ) → IsIndexed names rows → now ≡ names → row ≡ rows stream → AreNumbersOf now stream row
indexed-row names now rows stream row indexed is at =
    subst (λ (names : Names). AreNumbersOf names stream row) (sym is) (subst (AreNumbersOf names stream) (sym at) (indexed stream))

-- rows that are as they were
pub indexed-same : (names : Names) (old new : StreamId → List ℕ) → IsIndexed names old → ((other : StreamId) → new other ≡ old other) → IsIndexed names new
indexed-same names old new indexed same stream = subst (AreNumbersOf names stream) (sym (same stream)) (indexed stream)

-- closing changes no row
pub indexed-closed : (names entries : Names) (s : SubName) (rows : StreamId → List ℕ) → entries ≡ changed_value same_sub s closed_registration names → IsIndexed names rows → IsIndexed entries rows
indexed-closed names entries s rows is indexed stream =
    let subs = ap keys_of is ∙ map-closed (λ (entry : SubName × Registration). entry.0) (λ _. refl) names s in
    let streams = ap (map stream_in) is ∙ map-closed stream_in (λ _. refl) names s in
    subst (λ lists. IsRowIn lists stream (rows stream)) (λ i. (sym subs i, sym streams i)) (indexed stream)

module _ (names : Names) (old new : StreamId → List ℕ) (s : SubName) (registration : Registration) (number : ℕ) (last : number ≡ length names) where
  abbrev subs : List SubName
  subs = keys_of names

  abbrev streams : List StreamId
  streams = map stream_in names

  named : length subs ≡ number
  named = length-map names (λ (entry : SubName × Registration). entry.0) ∙ sym last

  placed : length streams ≡ number
  placed = length-map names stream_in ∙ sym last

  more : ◌≡◌ {A = List SubName × List StreamId} (keys_of (names ++ (s, registration) ∷ []), map stream_in (names ++ (s, registration) ∷ [])) (subs ++ s ∷ [], streams ++ registration.stream ∷ [])
  more i = (map-append (λ (entry : SubName × Registration). entry.0) names ((s, registration) ∷ []) i, map-append stream_in names ((s, registration) ∷ []) i)

  pub indexed-push : (at : ℕ) → IsIndexed names old → IsPlaceOf (names_at (keys_of names) (old registration.stream)) s at
      → ((other : StreamId) → new other ≡ (if same_stream registration.stream other then insert (old registration.stream) at number else old other))
      → IsIndexed (names ++ (s, registration) ∷ []) new
  indexed-push at indexed place puts stream =
      subst (λ lists. IsRowIn lists stream (new stream)) (sym more)
      (subst (IsRowOf (subs ++ s ∷ []) (streams ++ registration.stream ∷ []) stream) (sym (puts stream)) (by (same_stream registration.stream stream) refl))
    where
      by : (b : Bool) → same_stream registration.stream stream ≡ b → IsRowOf (subs ++ s ∷ []) (streams ++ registration.stream ∷ []) stream (if b then insert (old registration.stream) at number else old stream)
      by true same =
          subst (λ other. IsRowOf (subs ++ s ∷ []) (streams ++ registration.stream ∷ []) other (insert (old registration.stream) at number)) (same_stream-equal registration.stream stream same)
          (row-put subs streams number named placed registration.stream s (old registration.stream) at (indexed registration.stream) place)
      by false apart =
          row-put_other subs streams number named placed stream s (old stream) registration.stream (apart-from registration.stream stream apart) (indexed stream)

  pub indexed-pop : (all : Names) → all ≡ names ++ (s, registration) ∷ [] → IsIndexed all old
      → ((other : StreamId) → new other ≡ (if same_stream registration.stream other then filter (λ n. not (nat_eq n number)) (old registration.stream) else old other))
      → IsIndexed names new
  indexed-pop all is indexed takes stream =
      subst (IsRowOf subs streams stream) (sym (takes stream)) (by (same_stream registration.stream stream) refl)
    where
      was : (stream : StreamId) → IsRowOf (subs ++ s ∷ []) (streams ++ registration.stream ∷ []) stream (old stream)
      was stream =
          subst (λ lists. IsRowIn lists stream (old stream)) more (subst (λ (names : Names). AreNumbersOf names stream (old stream)) is (indexed stream))

      by : (b : Bool) → same_stream registration.stream stream ≡ b → IsRowOf subs streams stream (if b then filter (λ n. not (nat_eq n number)) (old registration.stream) else old stream)
      by true same =
          subst (λ other. IsRowOf subs streams other (filter (λ n. not (nat_eq n number)) (old registration.stream))) (same_stream-equal registration.stream stream same)
          (row-cut subs streams number named placed registration.stream s (old registration.stream) (was registration.stream))
      by false apart =
          row-cut_other subs streams number named placed stream s (old stream) registration.stream (apart-from registration.stream stream apart) (was stream)
