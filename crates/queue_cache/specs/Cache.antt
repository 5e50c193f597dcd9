-- The cache of a queue as plain data.
use Rattle.std.specs.Prelude.{ℕ, ◌+◌, ◌-◌, ◌*◌, ◌/◌, List, [], ◌++◌, length, get_or, take, drop}
use Rattle.stream_ident.specs.declared.event.Event.{Event}
use Rattle.stream_ident.specs.Event.{no_event}
use Rattle.stream_ident.specs.declared.limits.TheConstants.{BLOCK_EVENTS}

-- the events that it keeps, the position of the first of them, and how many blocks of 64 it has room for
pub record PlainCache : Type 0 where
  pub events : List Event
  pub low : ℕ
  pub blocks : ℕ

-- an empty cache that begins at a position
abbrev pub empty : ℕ → ℕ → PlainCache
empty blocks at = record { events = []; low = at; blocks = blocks }

-- one past the last position
abbrev pub high : PlainCache → ℕ
high c = c.low + length c.events

-- how many more events fit
abbrev pub room : PlainCache → ℕ
room c = BLOCK_EVENTS * c.blocks - length c.events

-- the event at a position of a cache
abbrev pub event_at : PlainCache → ℕ → Event
event_at c position = get_or c.events (position - c.low) no_event

-- a cache with more events at its end
abbrev pub with_events : PlainCache → List Event → PlainCache
with_events c events = record c { events = c.events ++ events }

-- a cache without its first block
abbrev pub without_front : PlainCache → PlainCache
without_front c = record c { events = drop BLOCK_EVENTS c.events; low = c.low + BLOCK_EVENTS }

-- how many blocks hold events; a part of a block counts as one
abbrev pub block_count : PlainCache → ℕ
block_count c = (length c.events + (BLOCK_EVENTS - 1)) / BLOCK_EVENTS

-- the events of a block
abbrev pub block_events : PlainCache → ℕ → List Event
block_events c index = take BLOCK_EVENTS (drop (BLOCK_EVENTS * index) c.events)
