-- What a cursor seeks in a cache.
use Rattle.std.specs.Prelude.{◌≡◌, ℕ, ◌-◌, ◌≤◌, Bool, false, not, List, get_or, drop, Option, None, unwrap_or}
use Rattle.stream_ident.specs.declared.ident.StreamId.{StreamId}
use Rattle.stream_ident.specs.declared.token.Token.{Token}
use Rattle.stream_ident.specs.Event.{is_owed}
use Rattle.stream_ident.specs.Token.{token_lt}
use Rattle.stream_ident.specs.Words.{first_at}
use Rattle.queue_cache.specs.Cache.{PlainCache, high}
use Rattle.queue_mapper.specs.Place.{tag_of}

-- the first position from one on whose event is of a stream and not before a start
abbrev pub next_in : PlainCache → ℕ → StreamId → Token → Option ℕ
next_in c from stream start = first_at (λ event. is_owed stream start event) from (drop (from - c.low) c.events)

-- the first position whose token isn't below a given one, or the end of the cache
abbrev pub lower_in : PlainCache → Token → ℕ
lower_in c token = unwrap_or (first_at (λ event. not (token_lt event.token token)) c.low c.events) (high c)

-- from a position on the cache has no event of a stream whose tag isn't marked
abbrev pub AreMarked : PlainCache → ℕ → List Bool → Type 0
AreMarked c from marks =
    (at : ℕ) (stream : StreamId) (start : Token) → from ≤ at → get_or marks (tag_of stream) false ≡ false → next_in c at stream start ≡ None
