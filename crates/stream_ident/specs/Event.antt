-- Events: those of a batch, and those that a subscription is owed.
use Rattle.std.specs.Prelude.{ℕ, suc, Bool, ◌&&◌, not, List, [], ◌∷◌, get_or, map}
use Rattle.stream_ident.specs.declared.event.Event.{Event}
use Rattle.stream_ident.specs.declared.ident.StreamId.{StreamId}
use Rattle.stream_ident.specs.declared.token.Token.{Token}
use Rattle.stream_ident.specs.Name.{same_stream}
use Rattle.stream_ident.specs.Token.{token_lt}

-- the first token of the batch with this number
abbrev pub batch_token : ℕ → Token
batch_token seq = record { seq = seq; idx = 0 }

-- the events of a batch, from this place in it on: the n-th accepted batch has the number n, counted from
-- 0, and its events have the indexes 0, 1, 2 and so on (Orleans, Streaming: event sequence tokens)
abbrev pub events_of : StreamId → ℕ → ℕ → List (List ℕ) → List Event
events_of stream seq idx [] = []
events_of stream seq idx (payload ∷ payloads) =
    record { stream = stream; token = record { seq = seq; idx = idx }; payload = payload } ∷ events_of stream seq (suc idx) payloads

-- an event that a subscription is owed: of its stream, and not before its start
abbrev pub is_owed : StreamId → Token → Event → Bool
is_owed stream start event = same_stream stream event.stream && not (token_lt event.token start)

-- what stands for an event where there is none
abbrev pub no_event : Event
no_event = record { stream = record { namespace = []; key = [] }; token = batch_token 0; payload = [] }

abbrev pub events_at : List Event → List ℕ → List Event
events_at log positions = map (λ position. get_or log position no_event) positions
