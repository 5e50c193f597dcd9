-- What a log keeps gives its events: those that it had, and those of one more batch.
use Rattle.partition_queue.proofs.Prelude.{◌≡◌, ◌∙◌, ap, sym, subst, refl, ℕ, zero, suc, ◌+◌, ◌*◌, ◌<◌, ◌≤◌, List, [], ◌∷◌, ◌++◌, length, get_or, map, take, drop, append_assoc, length-append, arith, drop-append-le, take-append-le, length-drop, get_or_append_left, map-append, AllByRecursion, concat, IsPayload, events_of, StreamId, PAYLOAD_BYTES}
use Rattle.std.proofs.Math.Seq.{drop-append_seam, take-append_seam}
use Rattle.stream_ident.specs.declared.token.Token.{Token}
use Rattle.stream_ident.proofs.EachOf.{All-append}
use Rattle.partition_queue.specs.declared.queue.Entry.{Entry}
use Rattle.partition_queue.specs.Log.{entries_of, event_of, events_in, no_stream, payload_in, token_of, Grows, IsEntry, IsKept}

-- ---- payloads

pub length-payloads : (payloads : List (List ℕ)) → AllByRecursion IsPayload payloads → length (concat payloads) ≤ PAYLOAD_BYTES * length payloads
length-payloads [] all = omega arith
length-payloads (payload ∷ payloads) all =
    let here = all.0.short in
    let later = length-payloads payloads all.1 in
    let both = length-append payload (concat payloads) in
    omega (arith, here, later, both)

-- ---- the entries that were there

-- the token of the event that an entry at a place gives
pub token_in : (streams : List StreamId) (bytes : List ℕ) (entries : List Entry) (i : ℕ) (d : Entry) (t : Token) → i < length entries → token_of (get_or entries i d) ≡ get_or (map (λ event. event.token) (events_in streams bytes entries)) i t
token_in streams bytes [] i d t within = absurd (omega arith)
token_in streams bytes (e ∷ entries) zero d t within = refl
token_in streams bytes (e ∷ entries) (suc i) d t within = token_in streams bytes entries i d t (omega arith)

payload_grown : (bytes more : List ℕ) (e : Entry) → e.start + e.len ≤ length bytes → payload_in (bytes ++ more) e ≡ payload_in bytes e
payload_grown bytes more e end =
    let starts : e.start ≤ length bytes = omega arith in
    let left = length-drop e.start bytes in
    let fits : e.len ≤ length (drop e.start bytes) = omega (arith, left) in
    rw (drop-append-le e.start bytes more starts) (take-append-le e.len (drop e.start bytes) more fits)

entry_grown : (streams news : List StreamId) (bytes more : List ℕ) (e : Entry) → IsEntry streams bytes e → IsEntry (streams ++ news) (bytes ++ more) e
entry_grown streams news bytes more e is =
    let many = length-append streams news in
    let long = length-append bytes more in
    let stream = is.stream in
    let end = is.end in
    record {
      stream = omega (arith, many, stream);
      end = omega (arith, long, end);
      payload = subst IsPayload (sym (payload_grown bytes more e is.end)) is.payload;
    }

entries_grown : (streams news : List StreamId) (bytes more : List ℕ) (entries : List Entry) → AllByRecursion (IsEntry streams bytes) entries → AllByRecursion (IsEntry (streams ++ news) (bytes ++ more)) entries
entries_grown streams news bytes more [] all = tt
entries_grown streams news bytes more (e ∷ entries) all =
    (entry_grown streams news bytes more e all.0, entries_grown streams news bytes more entries all.1)

events_grown : (streams news : List StreamId) (bytes more : List ℕ) (entries : List Entry) → AllByRecursion (IsEntry streams bytes) entries → events_in (streams ++ news) (bytes ++ more) entries ≡ events_in streams bytes entries
events_grown streams news bytes more [] all = refl
events_grown streams news bytes more (e ∷ entries) all =
    let stream : get_or (streams ++ news) e.stream no_stream ≡ get_or streams e.stream no_stream = get_or_append_left streams news no_stream e.stream all.0.stream in
    let payload = payload_grown bytes more e all.0.end in
    let later = events_grown streams news bytes more entries all.1 in
    λ i. record { stream = stream i; token = token_of e; payload = payload i } ∷ later i

-- ---- the entries of a batch

first_payload : (bytes payload more : List ℕ) → take (length payload) (drop (length bytes) (bytes ++ (payload ++ more))) ≡ payload
first_payload bytes payload more = rw (drop-append_seam bytes (payload ++ more)) (take-append_seam payload more)

pub length-entries_of : (stream seq idx start : ℕ) (payloads : List (List ℕ)) → length (entries_of stream seq idx start payloads) ≡ length payloads
length-entries_of stream seq idx start [] = refl
length-entries_of stream seq idx start (payload ∷ payloads) = ap suc (length-entries_of stream seq (suc idx) (start + length payload) payloads)

-- the entries give the events of the batch
new_events : (streams : List StreamId) (stream : StreamId) (number seq idx : ℕ) (bytes : List ℕ) (payloads : List (List ℕ)) → get_or streams number no_stream ≡ stream
    → events_in streams (bytes ++ concat payloads) (entries_of number seq idx (length bytes) payloads) ≡ events_of stream seq idx payloads
new_events streams stream number seq idx bytes [] is = refl
new_events streams stream number seq idx bytes (payload ∷ payloads) is =
    let here = first_payload bytes payload (concat payloads) in
    let later = new_events streams stream number seq (suc idx) (bytes ++ payload) payloads is in
    let whole : (bytes ++ payload) ++ concat payloads ≡ bytes ++ (payload ++ concat payloads) = append_assoc bytes payload (concat payloads) in
    let start : length (bytes ++ payload) ≡ length bytes + length payload = length-append bytes payload in
    let rest : events_in streams (bytes ++ (payload ++ concat payloads)) (entries_of number seq (suc idx) (length bytes + length payload) payloads) ≡ events_of stream seq (suc idx) payloads =
    (λ i. events_in streams (sym whole i) (entries_of number seq (suc idx) (sym start i) payloads)) ∙ later in
    λ i. record { stream = is i; token = record { seq = seq; idx = idx }; payload = here i } ∷ rest i

new_entries : (streams : List StreamId) (number seq idx : ℕ) (bytes : List ℕ) (payloads : List (List ℕ)) → number < length streams → AllByRecursion IsPayload payloads
    → AllByRecursion (IsEntry streams (bytes ++ concat payloads)) (entries_of number seq idx (length bytes) payloads)
new_entries streams number seq idx bytes [] within all = tt
new_entries streams number seq idx bytes (payload ∷ payloads) within all =
    let here = first_payload bytes payload (concat payloads) in
    let later = new_entries streams number seq (suc idx) (bytes ++ payload) payloads within all.1 in
    let whole : (bytes ++ payload) ++ concat payloads ≡ bytes ++ (payload ++ concat payloads) = append_assoc bytes payload (concat payloads) in
    let start : length (bytes ++ payload) ≡ length bytes + length payload = length-append bytes payload in
    let front = length-append bytes (payload ++ concat payloads) in
    let back = length-append payload (concat payloads) in
    let rest : AllByRecursion (IsEntry streams (bytes ++ (payload ++ concat payloads))) (entries_of number seq (suc idx) (length bytes + length payload) payloads) =
    subst (λ at. AllByRecursion (IsEntry streams (bytes ++ (payload ++ concat payloads))) (entries_of number seq (suc idx) at payloads)) start
    (subst (λ row. AllByRecursion (IsEntry streams row) (entries_of number seq (suc idx) (length (bytes ++ payload)) payloads)) whole later) in (
      record {
        stream = within;
        end = omega (arith, front, back);
        payload = subst IsPayload (sym here) all.0;
      },
      rest,
    )

-- ---- a log with one more batch

pub events_with : (streams streams' : List StreamId) (bytes bytes' : List ℕ) (entries entries' : List Entry) (stream : StreamId) (number seq : ℕ) (payloads : List (List ℕ))
    → Grows streams streams' → bytes' ≡ bytes ++ concat payloads → entries' ≡ entries ++ entries_of number seq 0 (length bytes) payloads
    → get_or streams' number no_stream ≡ stream → IsKept streams bytes entries
    → events_in streams' bytes' entries' ≡ events_in streams bytes entries ++ events_of stream seq 0 payloads
events_with streams streams' bytes bytes' entries entries' stream number seq payloads grows long more is kept =
    let news = grows.0 in
    let old : events_in streams' bytes' entries ≡ events_in streams bytes entries =
    (λ i. events_in (grows.1 i) (long i) entries) ∙ events_grown streams news bytes (concat payloads) entries kept.each in
    let new : events_in streams' bytes' (entries_of number seq 0 (length bytes) payloads) ≡ events_of stream seq 0 payloads =
    (λ i. events_in streams' (long i) (entries_of number seq 0 (length bytes) payloads)) ∙ new_events streams' stream number seq 0 bytes payloads is in
    ap (events_in streams' bytes') more ∙ (map-append (event_of streams' bytes') entries (entries_of number seq 0 (length bytes) payloads) ∙ (λ i. old i ++ new i))

pub kept_with : (streams streams' : List StreamId) (bytes bytes' : List ℕ) (entries entries' : List Entry) (number seq : ℕ) (payloads : List (List ℕ))
    → Grows streams streams' → bytes' ≡ bytes ++ concat payloads → entries' ≡ entries ++ entries_of number seq 0 (length bytes) payloads
    → number < length streams' → 0 < length payloads → AllByRecursion IsPayload payloads → IsKept streams bytes entries → IsKept streams' bytes' entries'
kept_with streams streams' bytes bytes' entries entries' number seq payloads grows long more within some all kept =
    let news = grows.0 in
    let added = entries_of number seq 0 (length bytes) payloads in
    let old : AllByRecursion (IsEntry streams' bytes') entries =
    subst (λ row. AllByRecursion (IsEntry row bytes') entries) (sym grows.1)
    (subst (λ row. AllByRecursion (IsEntry (streams ++ news) row) entries) (sym long) (entries_grown streams news bytes (concat payloads) entries kept.each)) in
    let new : AllByRecursion (IsEntry streams' bytes') added =
    subst (λ row. AllByRecursion (IsEntry streams' row) added) (sym long) (new_entries streams' number seq 0 bytes payloads within all) in
    let many : length entries' ≡ length entries + length payloads = ap length more ∙ (length-append entries added ∙ ap (λ n. length entries + n) (length-entries_of number seq 0 (length bytes) payloads)) in
    let size : length bytes' ≡ length bytes + length (concat payloads) = ap length long ∙ length-append bytes (concat payloads) in
    let short = length-payloads payloads all in
    let names : length streams' ≡ length streams + length news = ap length grows.1 ∙ length-append streams news in
    let one : length news ≤ 1 = grows.2 in
    let was = kept.short in
    let were = kept.few in
    record {
      each = subst (AllByRecursion (IsEntry streams' bytes')) (sym more) (All-append (IsEntry streams' bytes') entries added old new);
      short = omega (arith, many, size, short, was);
      few = omega (arith, many, names, one, were, some);
    }
