-- The agent takes events from the queue.
use Rattle.std.specs.Prelude.{ℕ, ◌+◌, ◌*◌, List}
use Rattle.stream_ident.specs.declared.event.Event.{Event}
use Rattle.stream_ident.specs.declared.limits.TheConstants.{BLOCK_EVENTS}
use Rattle.stream_model.specs.declared.plain.PlainPartition.{PlainPartition}
use Rattle.stream_model.specs.Replies.{Reply}
use Rattle.stream_model.specs.Positions.{between}
use Rattle.stream_model.specs.Pulling.{pull_events, subs_with}
use Rattle.pulling_agent.specs.Agent.{pulled}
use Rattle.queue_cache.specs.Cache.{high}
use Rattle.step_core.specs.declared.parts.Parts.{Parts}

-- the next so many events, with so many blocks dropped for them, and the subscriptions that the rules make
abbrev pub taken : PlainPartition → ℕ → ℕ → PlainPartition × Reply
taken p drops count =
    pull_events p (p.low + BLOCK_EVENTS * drops) (p.high + count) (subs_with p.rules p.high p.subs (between p.log p.high (p.high + count)))

-- so many events of the queue that the cache doesn't have yet
abbrev pub ahead : Parts → ℕ → List Event
ahead parts count = between parts.queue.events (high parts.agent.cache) (high parts.agent.cache + count)

-- the cache without so many blocks, and with so many events more
abbrev pub filled : Parts → ℕ → ℕ → Parts
filled parts drops count = record parts { agent = pulled parts.agent drops (ahead parts count) }
