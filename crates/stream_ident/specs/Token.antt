-- Sequence tokens: their tests, and their one spelling.
use Rattle.std.specs.Prelude.{ℕ, ◌^◌, ◌<◌, Bool, ◌&&◌, ◌||◌, ◌==◌, nat_lt, List, ◌∷◌, ◌++◌, Option, Some, None, Result, Ok, Err, if◌then◌else◌}
use Rattle.std.specs.Fmt.{decimal}
use Rattle.stream_ident.specs.Number.{number_of}
use Rattle.stream_ident.specs.Text.{split_once}
use Rattle.stream_ident.specs.declared.token.BadToken.{BadToken}
use Rattle.stream_ident.specs.declared.token.Token.{Token}

abbrev pub same_token : Token → Token → Bool
same_token a b = (a.seq == b.seq) && (a.idx == b.idx)

-- by batch, then by index
abbrev pub token_lt : Token → Token → Bool
token_lt a b = nat_lt a.seq b.seq || ((a.seq == b.seq) && nat_lt a.idx b.idx)

-- the one spelling of a token: two decimal numbers joined by a full stop
abbrev pub token_text : Token → List ℕ
token_text token = decimal token.seq ++ 46 ∷ decimal token.idx

-- a batch number below 2^64 and an index below 2^32
pub record IsToken (token : Token) : Type 0 where
  pub seq : token.seq < 2 ^ 64
  pub idx : token.idx < 2 ^ 32

-- the number where it is below 2 ^ 32
abbrev pub narrowed : Option ℕ → Option ℕ
narrowed None = None
narrowed (Some n) = if nat_lt n (2 ^ 32) then Some n else None

-- the token of two numbers
abbrev pub token_or : Option ℕ → Option ℕ → Result Token BadToken
token_or (Some seq) (Some idx) = Ok (record { seq = seq; idx = idx })
token_or (Some seq) None = Err (record {})
token_or None idx = Err (record {})

-- the token of the texts of its numbers
abbrev pub token_of_parts : Option (List ℕ × List ℕ) → Result Token BadToken
token_of_parts None = Err (record {})
token_of_parts (Some parts) = token_or (number_of parts.0) (narrowed (number_of parts.1))

-- the token that bytes write
abbrev pub token_of : List ℕ → Result Token BadToken
token_of bytes = token_of_parts (split_once 46 bytes)
