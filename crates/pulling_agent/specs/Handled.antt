-- The search for a token among the handled positions.
use Rattle.std.specs.Prelude.{◌≡◌, ℕ, ◌<◌, ◌≤◌, true, false, List, [], ◌∷◌, length, slice_index, Option, Some, None}
use Rattle.stream_ident.specs.declared.token.Token.{Token}
use Rattle.stream_ident.specs.Token.{token_lt}
use Rattle.partition_queue.specs.Queue.{PlainQueue, token_at}

-- the first element, if there is one
abbrev pub first_of : {A : Type 0} → List A → Option A
first_of [] = None
first_of (x ∷ xs) = Some x

-- the tokens of the positions before this place are less than the token, and those of the others aren't
pub record IsBound (handled : List ℕ) (queue : PlainQueue) (token : Token) (place : ℕ) : Type 0 where
  pub within : place ≤ length handled
  pub less : (i : ℕ) → i < place → token_lt (token_at queue (slice_index handled i)) token ≡ true
  pub others : (i : ℕ) → place ≤ i → i < length handled → token_lt (token_at queue (slice_index handled i)) token ≡ false
