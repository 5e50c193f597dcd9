-- The queues of a summary.
use Rattle.script_checker.proofs.Prelude.{◌≡◌, ℕ, Bool, true, false, ◌||◌, cond, List, [], ◌∷◌, ◌++◌, Option, Some, None, is_some, refl, sym, ap, ◌∙◌, inl, inr, cases_Bool, StreamId, Command}
use Rattle.stream_ident.proofs.SameValues.{same_stream-equal, same_stream-refl}
use Rattle.stream_ident.proofs.WordLemmas.{or_else-none}
use Rattle.stream_ident.specs.Name.{same_stream}
use Rattle.stream_ident.specs.Words.{value_at, or_else, with_new}
use Rattle.script_checker.specs.PlainSummary.{PlainSummary}
use Rattle.script_checker.specs.Summaries.{named, noted, own_queue, queue_in, stream_in}
use Rattle.script_checker.specs.SummaryLaws.{is_named, is_named_in, noted_all}

-- an entry at the end is found where none in front of it is
value_at-last : (stream : StreamId) (entries : List (StreamId × ℕ)) (other : StreamId) (queue : ℕ)
    → value_at same_stream stream (entries ++ (other, queue) ∷ []) ≡ or_else (value_at same_stream stream entries) (cond (same_stream stream other) (Some queue) None)
value_at-last stream [] other queue = refl
value_at-last stream (entry ∷ entries) other queue =
    elim (cases_Bool (same_stream stream entry.0)) [
      | inl h ↦ rw h refl
      | inr h ↦ rw h (value_at-last stream entries other queue)
    ]

or_else-some : {A : Type 0} (found other : Option A) → is_some found ≡ true → or_else found other ≡ found
or_else-some None other e = absurd cc
or_else-some (Some x) other e = refl

-- a stream that is named is found where it is, or else at the end
itself : (entries : List (StreamId × ℕ)) (stream : StreamId) (queue : ℕ) → value_at same_stream stream (with_new same_stream entries (stream, queue)) ≡ or_else (value_at same_stream stream entries) (Some queue)
itself entries stream queue =
    elim (cases_Bool (is_some (value_at same_stream stream entries))) [
      | inl there ↦ rw there (sym (or_else-some (value_at same_stream stream entries) (Some queue) there))
      | inr gone ↦ rw gone (value_at-last stream entries stream queue ∙ rw (same_stream-refl stream) refl)
    ]

-- and so is each other one as before
other-named : (entries : List (StreamId × ℕ)) (stream other : StreamId) (queue : ℕ) → same_stream stream other ≡ false → value_at same_stream stream (with_new same_stream entries (other, queue)) ≡ value_at same_stream stream entries
other-named entries stream other queue apart =
    elim (cases_Bool (is_some (value_at same_stream other entries))) [
      | inl there ↦ rw there refl
      | inr gone ↦ rw gone (value_at-last stream entries other queue ∙ rw apart (or_else-none (value_at same_stream stream entries)))
    ]

-- the queue of a stream once one is named
queue_in-named : (summary : PlainSummary) (stream : StreamId) (found : Option StreamId)
    → queue_in (named summary found) stream ≡ or_else (queue_in summary stream) (cond (is_named stream found) (Some (own_queue stream summary.queues)) None)
queue_in-named summary stream None = sym (or_else-none (queue_in summary stream))
queue_in-named summary stream (Some other) =
    elim (cases_Bool (same_stream stream other)) [
      | inl same ↦ rw (same, ← same_stream-equal stream other same) (itself summary.streams stream (own_queue stream summary.queues))
      | inr apart ↦ rw apart (other-named summary.streams stream other (own_queue other summary.queues) apart ∙ sym (or_else-none (queue_in summary stream)))
    ]

queues-named : (summary : PlainSummary) (stream : Option StreamId) → (named summary stream).queues ≡ summary.queues
queues-named summary None = refl
queues-named summary (Some stream) = refl

or_else-twice : {A : Type 0} (found : Option A) (x : A) (a b : Bool) → or_else (or_else found (cond a (Some x) None)) (cond b (Some x) None) ≡ or_else found (cond (a || b) (Some x) None)
or_else-twice None x true b = refl
or_else-twice None x false b = refl
or_else-twice (Some y) x a b = refl

pub queues_all : (commands : List Command) (summary : PlainSummary) (stream : StreamId)
    → queue_in (noted_all summary commands) stream ≡ or_else (queue_in summary stream) (cond (is_named_in stream commands) (Some (own_queue stream summary.queues)) None)
queues_all [] summary stream = sym (or_else-none (queue_in summary stream))
queues_all (command ∷ commands) summary stream =
    let named_now = is_named stream (stream_in command) in
    let named_then = is_named_in stream commands in
    let queue = own_queue stream summary.queues in
    let same = ap (λ queues. cond named_then (Some (own_queue stream queues)) None) (queues-named summary (stream_in command)) in
    queues_all commands (noted summary command) stream ∙ ap (or_else (queue_in (noted summary command) stream)) same
    ∙ ap (λ found. or_else found (cond named_then (Some queue) None)) (queue_in-named summary stream (stream_in command))
    ∙ or_else-twice (queue_in summary stream) queue named_now named_then
