-- The events of a batch, added one after another.
use Rattle.stream_model.proofs.Prelude.{◌≡◌, refl, ◌∙◌, ap, ℕ, suc, ◌+◌, ◌<◌, List, [], ◌∷◌, ◌++◌, length, take, get_or, arith, append_assoc, length-take-le, take_more, events_of, Event, StreamId}

-- the event of a payload at a place in its batch
abbrev pub event_at : StreamId → ℕ → ℕ → List ℕ → Event
event_at stream seq idx payload = record { stream = stream; token = record { seq = seq; idx = idx }; payload = payload }

-- a last payload gives a last event
events_of-push : (stream : StreamId) (seq idx : ℕ) (payloads : List (List ℕ)) (payload : List ℕ) → events_of stream seq idx (payloads ++ payload ∷ []) ≡ events_of stream seq idx payloads ++ event_at stream seq (idx + length payloads) payload ∷ []
events_of-push stream seq idx [] payload =
    let same : idx ≡ idx + 0 = omega arith in ap (λ n. event_at stream seq n payload ∷ []) same
events_of-push stream seq idx (first ∷ payloads) payload =
    let same : suc idx + length payloads ≡ idx + suc (length payloads) = omega arith in
    ap (λ rest. event_at stream seq idx first ∷ rest) (events_of-push stream seq (suc idx) payloads payload ∙ ap (λ n. events_of stream seq (suc idx) payloads ++ event_at stream seq n payload ∷ []) same)

-- one event more on a log, in the loop over the payloads
pub event-more : (log : List Event) (stream : StreamId) (seq : ℕ) (payloads : List (List ℕ)) (i : ℕ) (payload : List ℕ) → i < length payloads → payload ≡ get_or payloads i payload → (log ++ events_of stream seq 0 (take i payloads)) ++ event_at stream seq i payload ∷ [] ≡ log ++ events_of stream seq 0 (take (i + 1) payloads)
event-more log stream seq payloads i payload within is =
    let short : length (take i payloads) ≡ i = length-take-le i payloads (omega arith) in
    let place : 0 + i ≡ i = omega arith in
    rw (take_more payloads i payload within, ← is, events_of-push stream seq 0 (take i payloads) payload, short, place, append_assoc) refl
