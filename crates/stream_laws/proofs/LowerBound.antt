-- The position of a start token: no event before it is owed from that token on.
use Rattle.stream_laws.proofs.Prelude.{◌≡◌, ◌∙◌, ap, sym, refl, ℕ, ◌+◌, ◌-◌, ◌<◌, ◌≤◌, not, true, false, length, map, get_or, Option, Some, None, unwrap_or, ⊎_elim, arith, cases_lt, not-false, get_or-map, get_or_past, length-map, batch_token, token_lt, first_at, Event, StreamId, Token, between, low_token, lower_bound, no_event, token_at, PlainPartition}
use Rattle.stream_ident.proofs.FirstLemmas.{first_at-None, first_at-Some}
use Rattle.stream_laws.proofs.Invariant.{LogFits, marks_of}
use Rattle.stream_laws.proofs.LogLemmas.{between-at, clear-before, length-between, token_lt-before}
use Rattle.stream_laws.proofs.Marks.{IsClear}
use Rattle.stream_laws.proofs.Summary.{Summary}

-- the token at a position in the log, and at its end
pub token_at-within : (p : PlainPartition) (q : ℕ) → q < length p.log → token_at p q ≡ (get_or p.log q no_event).token
token_at-within p q within = get_or-map (λ event. event.token) p.log q no_event (batch_token p.batches) within

pub token_at-end : (p : PlainPartition) (q : ℕ) → length p.log ≤ q → token_at p q ≡ batch_token p.batches
token_at-end p q beyond = get_or_past (map (λ event. event.token) p.log) q (batch_token p.batches) (omega (arith, length-map p.log (λ (event : Event). event.token)))

module _ (t : Summary) (p : PlainPartition) (fits : LogFits t p) where
  -- an event before a position has a lesser token than that position
  pub token-before : (q n : ℕ) → q < n → q < length p.log → token_lt (get_or p.log q no_event).token (token_at p n) ≡ true
  token-before q n below q_within =
      ⊎_elim
      (λ (within : n < length p.log). ap (token_lt (get_or p.log q no_event).token) (token_at-within p n within) ∙ fits.rising q n below within)
      (λ (beyond : length p.log ≤ n). ap (token_lt (get_or p.log q no_event).token) (token_at-end p n beyond) ∙ fits.ended q q_within)
      (cases_lt n (length p.log))

  module _ (token : Token) (kept : token_lt token (low_token p) ≡ false) where
    before_low : (q : ℕ) → q < p.low → q < length p.log → token_lt (get_or p.log q no_event).token token ≡ true
    before_low q below within = token_lt-before (get_or p.log q no_event).token (low_token p) token (token-before q p.low below within) kept

    -- the positions of the cache before this one are of lesser tokens
    abbrev IsBound : ℕ → Type 0
    IsBound n = (p.low ≤ n) × (n ≤ p.high) × ((q : ℕ) → p.low ≤ q → q < n → token_lt (get_or p.log q no_event).token token ≡ true)

    bound : (o : Option ℕ) → first_at (λ event. not (token_lt event.token token)) p.low (between p.log p.low p.high) ≡ o → IsBound (unwrap_or o p.high)
    bound None none = (fits.low_high, omega arith, below)
      where
        below : (q : ℕ) → p.low ≤ q → q < p.high → token_lt (get_or p.log q no_event).token token ≡ true
        below q from to =
            let size = length-between p.log p.low p.high fits.high_end in
            let same : p.low + (q - p.low) ≡ q = omega arith in
            let lesser = first_at-None (λ (event : Event). not (token_lt event.token token)) p.low (between p.log p.low p.high) no_event none (q - p.low) (omega arith) in
            ap (λ q. token_lt (get_or p.log q no_event).token token) (sym same)
            ∙ ap (λ (event : Event). token_lt event.token token) (sym (between-at p.log p.low p.high (q - p.low) (omega arith)))
            ∙ not-false _ lesser
    bound (Some i) is =
        let found = first_at-Some (λ (event : Event). not (token_lt event.token token)) p.low (between p.log p.low p.high) no_event i is in
        let at : i ≡ p.low + found.place = found.at in
        let within : found.place < length (between p.log p.low p.high) = found.within in
        let size = length-between p.log p.low p.high fits.high_end in
        (omega arith, omega arith, below (omega arith) found.place at found.before)
      where
        below : i ≤ p.high → (j : ℕ) → i ≡ p.low + j → ((k : ℕ) → k < j → not (token_lt (get_or (between p.log p.low p.high) k no_event).token token) ≡ false) → (q : ℕ) → p.low ≤ q → q < i → token_lt (get_or p.log q no_event).token token ≡ true
        below high j at lesser q from to =
            let same : p.low + (q - p.low) ≡ q = omega arith in
            ap (λ q. token_lt (get_or p.log q no_event).token token) (sym same)
            ∙ ap (λ (event : Event). token_lt event.token token) (sym (between-at p.log p.low p.high (q - p.low) (omega arith)))
            ∙ not-false _ (lesser (q - p.low) (omega arith))

    pub lower_bound-low : p.low ≤ lower_bound p token
    lower_bound-low = (bound _ refl).0

    pub lower_bound-high : lower_bound p token ≤ p.high
    lower_bound-high = (bound _ refl).1

    -- none before it is owed from the token on
    pub lower_bound-clear : (stream : StreamId) → IsClear (marks_of stream token p.log) 0 (lower_bound p token)
    lower_bound-clear stream = clear-before stream token p.log 0 (lower_bound p token) lesser
      where
        lesser : (q : ℕ) → 0 ≤ q → q < lower_bound p token → q < length p.log → token_lt (get_or p.log q no_event).token token ≡ true
        lesser q _ below within =
            ⊎_elim (λ (under : q < p.low). before_low q under within) (λ (from : p.low ≤ q). (bound _ refl).2 q from below) (cases_lt q p.low)
