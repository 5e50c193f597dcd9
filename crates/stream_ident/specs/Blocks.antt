-- Blocks of 64 events of a cache, by their numbers.
use Rattle.std.specs.Prelude.{ℕ, ◌+◌, ◌-◌, ◌/◌, min, max}
use Rattle.stream_ident.specs.declared.limits.TheConstants.{BLOCK_EVENTS, PULL_EVENTS, TURN_EVENTS}

-- the whole blocks from low on that end at or below both high and the least resume
abbrev pub free_blocks : ℕ → ℕ → ℕ → ℕ
free_blocks low high least = (min high least - low) / BLOCK_EVENTS

-- so many blocks hold so many events; a part of a block counts as one
abbrev pub blocks_for : ℕ → ℕ
blocks_for events = (events + (BLOCK_EVENTS - 1)) / BLOCK_EVENTS

-- the fewest blocks that make room for want events beside so much room, or all that are free
abbrev pub blocks_to_drop : ℕ → ℕ → ℕ → ℕ
blocks_to_drop room free want = min (blocks_for (want - room)) free

-- the free blocks beyond those to keep
abbrev pub blocks_to_purge : ℕ → ℕ → ℕ → ℕ
blocks_to_purge blocks free keep = min (blocks - keep) free

-- a pull brings 1 to 256 events
abbrev pub pull_size : ℕ → ℕ
pull_size max_events = min PULL_EVENTS (max 1 max_events)

-- a turn has 1 to 16 events
abbrev pub turn_size : ℕ → ℕ
turn_size max_events = min TURN_EVENTS (max 1 max_events)
