-- The search for a token among handled positions: they rise, and so do the tokens at them.
use Rattle.pulling_agent.proofs.Prelude.{PlainQueue, TokensRise, event_at, token_at, ◌≡◌, ◌∙◌, ap, sym, refl, inl, inr, ℕ, zero, suc, ◌+◌, ◌<◌, ◌≤◌, ◌≢◌, Bool, true, false, List, [], ◌∷◌, length, filter, get_or, Some, None, arith, get_or-map, same_token, token_lt}
use Rattle.std.specs.Bool.{then_some}
use Rattle.std.specs.Prelude.{All, nat_le}
use Rattle.std.proofs.lemmas.Bool.{and_parts, cases_lt, cases_order, false_from_ne_true, leb-true}
use Rattle.std.proofs.lemmas.Bool.Decides.{nat_tests}
use Rattle.std.proofs.lemmas.List.Elements.{All-get_or}
use Rattle.stream_ident.specs.declared.token.Token.{Token}
use Rattle.stream_ident.specs.Event.{batch_token, no_event}
use Rattle.consumer_grain.specs.Handled.{rises_from}
use Rattle.consumer_grain.proofs.NumberLemmas.{rises_from-at_least}
use Rattle.pulling_agent.specs.Progress.{handled_at}
use Rattle.pulling_agent.specs.Handled.{first_of, IsBound}
use Rattle.stream_ident.proofs.TokenLemmas.{token_lt-trans}

same_no_less : (a b : Token) → token_lt a b ≡ true → same_token a b ≡ false
same_no_less a b less = grind (arith, nat_tests)

same_less : (a b c : Token) → token_lt a b ≡ true → same_token b c ≡ true → token_lt a c ≡ true
same_less a b c less same = grind (arith, nat_tests)

-- positions that rise
rises_parts : (n x : ℕ) (xs : List ℕ) → rises_from n (x ∷ xs) ≡ true → (n ≤ x) × (rises_from (suc x) xs ≡ true)
rises_parts n x xs rise =
    let parts = and_parts (nat_le n x) (rises_from (suc x) xs) rise in
    (leb-true n x parts.0, parts.1)

rising_at : (n : ℕ) (xs : List ℕ) (i j : ℕ) → rises_from n xs ≡ true → i < j → j < length xs → get_or xs i 0 < get_or xs j 0
rising_at n [] i j rise less within = absurd (omega arith)
rising_at n (x ∷ xs) i zero rise less within = absurd (omega arith)
rising_at n (x ∷ xs) zero (suc j) rise less within = rises_from-at_least (suc x) xs j (rises_parts n x xs rise).1 (omega arith)
rising_at n (x ∷ xs) (suc i) (suc j) rise less within = rising_at (suc x) xs i j (rises_parts n x xs rise).1 (omega arith) (omega arith)

-- the token at a position of the queue is that of its event
token_there : (q : PlainQueue) (position : ℕ) → position < length q.events → token_at q position ≡ (event_at q position).token
token_there q position there = get_or-map (λ event. event.token) q.events position no_event (batch_token q.batches) there

order_there : (q : PlainQueue) (i j : ℕ) → TokensRise q → i < j → j < length q.events → token_lt (token_at q i) (token_at q j) ≡ true
order_there q i j tokens less there = rw (token_there q i (omega arith), token_there q j there) (tokens.rising i j less there)

-- what is so of every position is so of each
there_at : (handled : List ℕ) (q : PlainQueue) (i : ℕ) → All (λ position. position < length q.events) handled → i < length handled → get_or handled i 0 < length q.events
there_at handled q i there within = All-get_or (λ position. position < length q.events) handled i 0 within there

tokens_at : (handled : List ℕ) (q : PlainQueue) (i j : ℕ) → rises_from 0 handled ≡ true → All (λ position. position < length q.events) handled → TokensRise q → i < j → j < length handled → token_lt (token_at q (get_or handled i 0)) (token_at q (get_or handled j 0)) ≡ true
tokens_at handled q i j rise there tokens less within =
    order_there q (get_or handled i 0) (get_or handled j 0) tokens (rising_at 0 handled i j rise less within) (there_at handled q j there within)

-- a place whose token is less than the one sought: so are those before it
pub less_below : (handled : List ℕ) (q : PlainQueue) (token : Token) (middle i : ℕ) → rises_from 0 handled ≡ true → All (λ position. position < length q.events) handled → TokensRise q → middle < length handled → token_lt (token_at q (get_or handled middle 0)) token ≡ true → i < middle + 1 → token_lt (token_at q (get_or handled i 0)) token ≡ true
less_below handled q token middle i rise there tokens within less below =
    elim (cases_order i middle) [
      | inl same ↦ rw same less
      | inr differ ↦ elim differ [
        | inl under ↦ token_lt-trans (token_at q (get_or handled i 0)) (token_at q (get_or handled middle 0)) token (tokens_at handled q i middle rise there tokens under within) less
        | inr over ↦ absurd (omega arith)
      ]
    ]

-- one whose token isn't less: so are those behind it
pub others_above : (handled : List ℕ) (q : PlainQueue) (token : Token) (middle i : ℕ) → rises_from 0 handled ≡ true → All (λ position. position < length q.events) handled → TokensRise q → token_lt (token_at q (get_or handled middle 0)) token ≡ false → middle ≤ i → i < length handled → token_lt (token_at q (get_or handled i 0)) token ≡ false
others_above handled q token middle i rise there tokens isnt above within =
    elim (cases_order i middle) [
      | inl same ↦ rw same isnt
      | inr differ ↦ elim differ [
        | inl under ↦ absurd (omega arith)
        | inr over ↦ false_from_ne_true _ (λ (less : token_lt (token_at q (get_or handled i 0)) token ≡ true). let yet = token_lt-trans (token_at q (get_or handled middle 0)) (token_at q (get_or handled i 0)) token (tokens_at handled q middle i rise there tokens over within) less in cc)
      ]
    ]

-- beside the place that the search ends at no token is the one sought
alone : (handled : List ℕ) (q : PlainQueue) (token : Token) (place i : ℕ) → rises_from 0 handled ≡ true → All (λ position. position < length q.events) handled → TokensRise q → IsBound handled q token place → i ≢ place → i < length handled → same_token (token_at q (get_or handled i 0)) token ≡ false
alone handled q token place i rise there tokens bound differ within =
    elim (cases_lt i place) [
      | inl below ↦ same_no_less (token_at q (get_or handled i 0)) token (bound.less i below)
      | inr above ↦ false_from_ne_true _ (
          λ (same : same_token (token_at q (get_or handled i 0)) token ≡ true).
          let behind : place < i = omega arith in
          let less = same_less (token_at q (get_or handled place 0)) (token_at q (get_or handled i 0)) token (tokens_at handled q place i rise there tokens behind within) same in
          let isnt = bound.others place (omega arith) (omega arith) in
          cc
          )
    ]

-- filters
none_pass : (p : ℕ → Bool) (xs : List ℕ) → ((i : ℕ) → i < length xs → p (get_or xs i 0) ≡ false) → filter p xs ≡ []
none_pass p [] isnt = refl
none_pass p (x ∷ xs) isnt = let here = isnt 0 (omega arith) in rw here (none_pass p xs (λ i within. isnt (suc i) (omega arith)))

one_passes : (p : ℕ → Bool) (xs : List ℕ) (place : ℕ) → ((i : ℕ) → i < place → p (get_or xs i 0) ≡ false) → place < length xs → p (get_or xs place 0) ≡ true → first_of (filter p xs) ≡ Some (get_or xs place 0)
one_passes p [] place isnt within is = absurd (omega arith)
one_passes p (x ∷ xs) zero isnt within is = rw is refl
one_passes p (x ∷ xs) (suc place) isnt within is = let here = isnt 0 (omega arith) in rw here (one_passes p xs place (λ i below. isnt (suc i) (omega arith)) (omega arith) is)

-- the search ends past the last position, or at one whose token isn't the one sought
pub not_there : (handled : List ℕ) (q : PlainQueue) (token : Token) (place : ℕ) → rises_from 0 handled ≡ true → All (λ position. position < length q.events) handled → TokensRise q → IsBound handled q token place → (place < length handled → same_token (token_at q (get_or handled place 0)) token ≡ false) → None ≡ first_of (handled_at handled q token)
not_there handled q token place rise there tokens bound isnt =
    let each = λ (i : ℕ) (within : i < length handled).
    elim (cases_order i place) as (λ _. same_token (token_at q (get_or handled i 0)) token ≡ false) [
      | inl same ↦ rw same (isnt (omega arith))
      | inr differ ↦ alone handled q token place i rise there tokens bound (λ e. elim differ [ inl under ↦ omega arith | inr over ↦ omega arith ]) within
    ]
    in
    sym (ap first_of (none_pass (λ position. same_token (token_at q position) token) handled each))

-- or at the one whose token is
is_there : (handled : List ℕ) (q : PlainQueue) (token : Token) (place : ℕ) → rises_from 0 handled ≡ true → All (λ position. position < length q.events) handled → TokensRise q → IsBound handled q token place → place < length handled → same_token (token_at q (get_or handled place 0)) token ≡ true → Some (get_or handled place 0) ≡ first_of (handled_at handled q token)
is_there handled q token place rise there tokens bound within is =
    sym (one_passes (λ position. same_token (token_at q position) token) handled place (λ i below. same_no_less (token_at q (get_or handled i 0)) token (bound.less i below)) within is)

-- what the search answers where it ends at a position, by the test of its token
pub found_at : (handled : List ℕ) (q : PlainQueue) (token : Token) (place position : ℕ) (same : Bool) → rises_from 0 handled ≡ true → All (λ position. position < length q.events) handled → TokensRise q → IsBound handled q token place → place < length handled → position ≡ get_or handled place 0 → same ≡ same_token (token_at q position) token → then_some same position ≡ first_of (handled_at handled q token)
found_at handled q token place position true rise there tokens bound within at test =
    ap Some at ∙ is_there handled q token place rise there tokens bound within (sym (test ∙ ap (λ n. same_token (token_at q n) token) at))
found_at handled q token place position false rise there tokens bound within at test =
    not_there handled q token place rise there tokens bound (λ _. sym (test ∙ ap (λ n. same_token (token_at q n) token) at))
