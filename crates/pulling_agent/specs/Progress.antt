-- How a subscription goes on over the log: what each call makes of its state, and what it tells.
use Rattle.std.specs.Prelude.{ℕ, ◌<◌, ◌≤◌, Bool, not, List, [], ◌∷◌, filter, Option, Some, None, if◌then◌else◌}
use Rattle.stream_ident.specs.declared.ident.StreamId.{StreamId}
use Rattle.stream_ident.specs.declared.token.Token.{Token}
use Rattle.stream_ident.specs.Token.{same_token}
use Rattle.partition_queue.specs.Queue.{PlainQueue, token_at}
use Rattle.queue_cache.specs.Cache.{PlainCache, high}
use Rattle.cache_cursor.specs.Cursor.{next_in}
use Rattle.consumer_grain.specs.Subscriptions.{acknowledged, caught_up, rewound}
use Rattle.consumer_grain.specs.declared.sub_state.SubState.{SubState}
use Rattle.pulling_agent.specs.declared.told.Acked.{Acked}
use Rattle.pulling_agent.specs.declared.told.Acked.TheVariants as ack_told
use Rattle.pulling_agent.specs.declared.told.Retried.{Retried}
use Rattle.pulling_agent.specs.declared.told.Retried.TheVariants as retry_told
use Rattle.pulling_agent.specs.declared.told.Sought.{Sought}
use Rattle.pulling_agent.specs.declared.told.Sought.TheVariants as sought

-- with nothing more for it in the cache, it has caught up
abbrev pub next_at : PlainCache → SubState → Bool → Option ℕ → SubState × Sought
next_at cache state outstanding None = (caught_up (high cache) outstanding state, sought.Nothing)
next_at cache state outstanding (Some position) = (state, sought.Next position)

-- the next event of a cache that is owed, or none
abbrev pub next_event : PlainCache → SubState → StreamId → Bool → SubState × Sought
next_event cache state stream outstanding =
    if not state.live then (state, sought.Closed) else next_at cache state outstanding (next_in cache state.cursor stream state.start)

-- the event is in the cache, not before the cursor
abbrev pub IsFound : PlainCache → SubState → Sought → Type 0
IsFound cache state (sought.Next position) = (state.cursor ≤ position) × (position < high cache)
IsFound cache state _ = Unit {0}

-- what isn't acknowledged is sought again
abbrev pub retry : SubState → SubState × Retried
retry state = if not state.live then (state, retry_told.Closed) else (rewound state, retry_told.Rewound)

-- the handled positions with this token
abbrev pub handled_at : List ℕ → PlainQueue → Token → List ℕ
handled_at handled queue token = filter (λ position. same_token (token_at queue position) token) handled

abbrev pub ack_at : SubState → List ℕ → SubState × Acked
ack_at state [] = (state, ack_told.NotHandled)
ack_at state (position ∷ positions) = (acknowledged position state, ack_told.Acked)

-- a handled event is acknowledged, with all before it that is owed
abbrev pub ack : SubState → PlainQueue → Token → SubState × Acked
ack state queue token =
    if not state.live then (state, ack_told.Closed) else ack_at state (handled_at state.handled queue token)
