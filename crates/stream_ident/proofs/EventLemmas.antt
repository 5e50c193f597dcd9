-- The events of a batch.
use Rattle.stream_ident.proofs.Prelude.{◌≡◌, ℕ, suc, List, [], ◌∷◌, ◌∙◌, ◌+◌, ◌<◌, length, refl, ap, zero, get_or, arith}
use Rattle.stream_ident.specs.declared.ident.StreamId.{StreamId}
use Rattle.stream_ident.specs.Event.{events_of, no_event}

-- there are as many events as payloads
pub length-events_of : (stream : StreamId) (seq idx : ℕ) (payloads : List (List ℕ)) → length (events_of stream seq idx payloads) ≡ length payloads
length-events_of stream seq idx [] = refl
length-events_of stream seq idx (payload ∷ payloads) = ap suc (length-events_of stream seq (suc idx) payloads)

-- the token of one of them
pub events_of-token : (stream : StreamId) (seq idx : ℕ) (payloads : List (List ℕ)) (i : ℕ) → i < length payloads → (get_or (events_of stream seq idx payloads) i no_event).token ≡ record { seq = seq; idx = idx + i }
events_of-token stream seq idx [] i within = absurd (omega arith)
events_of-token stream seq idx (payload ∷ payloads) zero within =
    let same : idx ≡ idx + 0 = omega arith in λ i. record { seq = seq; idx = same i }
events_of-token stream seq idx (payload ∷ payloads) (suc i) within =
    let same : suc idx + i ≡ idx + suc i = omega arith in
    events_of-token stream seq (suc idx) payloads i (omega arith) ∙ (λ i. record { seq = seq; idx = same i })
