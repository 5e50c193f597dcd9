-- The tokens of a log after one more batch.
use Rattle.stream_laws.proofs.Prelude.{◌≡◌, ◌∙◌, ap, sym, refl, ℕ, suc, ◌+◌, ◌-◌, ◌<◌, ◌≤◌, true, List, ◌++◌, length, map, get_or, ⊎_elim, arith, cases_lt, get_or-map, get_or_past, get_or_append_left, get_or-append_right, length-append, length-map, batch_token, events_of, token_lt, Event, StreamId, Token, no_event}
use Rattle.std.proofs.lemmas.Bool.Decides.{nat_tests}
use Rattle.stream_ident.proofs.TokenLemmas.{token_lt-trans}
use Rattle.stream_ident.proofs.EventLemmas.{length-events_of, events_of-token}

-- ---- the order of tokens

token_lt-idx : (seq i j : ℕ) → i < j → token_lt (record { seq = seq; idx = i }) (record { seq = seq; idx = j }) ≡ true
token_lt-idx seq i j less = grind (arith, nat_tests)

token_lt-seq : (seq i : ℕ) → token_lt (record { seq = seq; idx = i }) (batch_token (suc seq)) ≡ true
token_lt-seq seq i = grind (arith, nat_tests)

-- before the batch, so before each of its events
token_lt-batch : (token : Token) (seq i : ℕ) → token_lt token (batch_token seq) ≡ true → token_lt token (record { seq = seq; idx = i }) ≡ true
token_lt-batch token seq i before = grind (arith, nat_tests)

-- ---- the tokens of a log with a batch at its end

-- the tokens of a log rise, and come before this batch
pub record IsRising (log : List Event) (batches : ℕ) : Type 0 where
  pub rising : (a b : ℕ) → a < b → b < length log → token_lt (get_or log a no_event).token (get_or log b no_event).token ≡ true
  pub ended : (q : ℕ) → q < length log → token_lt (get_or log q no_event).token (batch_token batches) ≡ true

module _ (log : List Event) (batches : ℕ) (stream : StreamId) (payloads : List (List ℕ)) where
  abbrev grown : List Event
  grown = log ++ events_of stream batches 0 payloads

  old_at : (q : ℕ) → q < length log → (get_or grown q no_event).token ≡ (get_or log q no_event).token
  old_at q within = ap (λ (event : Event). event.token) (get_or_append_left log (events_of stream batches 0 payloads) no_event q within)

  size : length grown ≡ length log + length payloads
  size = length-append log (events_of stream batches 0 payloads) ∙ ap (λ n. length log + n) (length-events_of stream batches 0 payloads)

  new_at : (q : ℕ) → length log ≤ q → q < length grown → (get_or grown q no_event).token ≡ record { seq = batches; idx = 0 + (q - length log) }
  new_at q from within =
      let all = size in
      ap (λ (event : Event). event.token) (get_or-append_right log (events_of stream batches 0 payloads) (length log) q no_event refl from)
      ∙ events_of-token stream batches 0 payloads (q - length log) (omega arith)

  rising-grown : IsRising log batches → (a b : ℕ) → a < b → b < length grown → token_lt (get_or grown a no_event).token (get_or grown b no_event).token ≡ true
  rising-grown old a b less within =
      ⊎_elim
      (λ (b_old : b < length log).
      let a_old : a < length log = omega arith in
      (λ i. token_lt (old_at a a_old i) (old_at b b_old i)) ∙ old.rising a b less b_old)
      (λ (b_new : length log ≤ b). ⊎_elim
      (λ (a_old : a < length log).
      (λ i. token_lt (old_at a a_old i) (new_at b b_new within i)) ∙ token_lt-batch _ batches (0 + (b - length log)) (old.ended a a_old))
      (λ (a_new : length log ≤ a).
      let a_within : a < length grown = omega arith in
      (λ i. token_lt (new_at a a_new a_within i) (new_at b b_new within i)) ∙ token_lt-idx batches (0 + (a - length log)) (0 + (b - length log)) (omega arith))
      (cases_lt a (length log)))
      (cases_lt b (length log))

  ended-grown : IsRising log batches → (q : ℕ) → q < length grown → token_lt (get_or grown q no_event).token (batch_token (suc batches)) ≡ true
  ended-grown old q within =
      ⊎_elim
      (λ (q_old : q < length log).
      (λ i. token_lt (old_at q q_old i) (batch_token (suc batches)))
      ∙ token_lt-trans _ (batch_token batches) (batch_token (suc batches)) (old.ended q q_old) (token_lt-seq batches 0))
      (λ (q_new : length log ≤ q).
      (λ i. token_lt (new_at q q_new within i) (batch_token (suc batches))) ∙ token_lt-seq batches (0 + (q - length log)))
      (cases_lt q (length log))

  pub IsRising-grown : IsRising log batches → IsRising grown (suc batches)
  IsRising-grown old = record { rising = rising-grown old; ended = ended-grown old }

  -- the token at a position of the log, or at its end, stays
  pub token_at-grown : (q : ℕ) → q ≤ length log → 0 < length payloads → get_or (map (λ event. event.token) grown) q (batch_token (suc batches)) ≡ get_or (map (λ event. event.token) log) q (batch_token batches)
  token_at-grown q to_end some =
      let all = size in
      let within : q < length grown = omega arith in
      get_or-map (λ event. event.token) grown q no_event (batch_token (suc batches)) within
      ∙ ⊎_elim
      (λ (q_old : q < length log). old_at q q_old ∙ sym (get_or-map (λ event. event.token) log q no_event (batch_token batches) q_old))
      (λ (q_new : length log ≤ q).
      let first : 0 + (q - length log) ≡ 0 = omega arith in
      new_at q q_new within ∙ (λ i. record { seq = batches; idx = first i })
      ∙ sym (get_or_past (map (λ event. event.token) log) q (batch_token batches) (omega (arith, length-map log (λ (event : Event). event.token)))))
      (cases_lt q (length log))
