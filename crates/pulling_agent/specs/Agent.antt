-- A pulling agent as plain data, and what each of its calls does (Orleans, Streaming, implementation
-- details: pulling agents, queue cache).
use Rattle.std.specs.Prelude.{ℕ, suc, ◌+◌, ◌-◌, ◌*◌, ◌/◌, ◌^◌, ◌<◌, ◌≤◌, min, List, length, map, drop, Result, Ok, Err, ◌==◌, if◌then◌else◌}
use Rattle.stream_ident.specs.declared.event.Event.{Event}
use Rattle.stream_ident.specs.Blocks as blocks
use Rattle.stream_ident.specs.Blocks.{pull_size}
use Rattle.stream_ident.specs.declared.limits.TheConstants.{BLOCK_EVENTS, PULL_EVENTS}
use Rattle.partition_queue.specs.Queue.{PlainQueue, between}
use Rattle.queue_cache.specs.Cache as cache
use Rattle.queue_mapper.specs.Place.{bare}
use Rattle.pulling_agent.specs.declared.agent.Plan.{Plan}
use Rattle.pulling_agent.specs.declared.agent.Plan.TheVariants as plan
use Rattle.pulling_agent.specs.declared.agent.StaleAgent.{StaleAgent}

-- which of the queue's agents it is, counted from 0, the silo that it runs on, and what it keeps in its cache
pub record PlainAgent : Type 0 where
  pub generation : ℕ
  pub silo : ℕ
  pub cache : cache.PlainCache

-- the first agent of a queue
abbrev pub empty : ℕ → PlainAgent
empty blocks = record { generation = 0; silo = 0; cache = cache.empty blocks 0 }

-- what is answered to a caller: one that names another generation speaks for an agent that was replaced
abbrev pub answered : {T : Type 0} → PlainAgent → ℕ → T → Result T StaleAgent
answered a generation answer = if generation == a.generation then Ok answer else Err (record { now = a.generation })

-- a caller that names another generation than the agent's own is refused
abbrev pub check : PlainAgent → ℕ → Result (Unit {0}) StaleAgent
check a generation = answered a generation tt

-- the cache without its first blocks
abbrev pub without_blocks : ℕ → cache.PlainCache → cache.PlainCache
without_blocks blocks c = record { events = drop (BLOCK_EVENTS * blocks) c.events; low = c.low + BLOCK_EVENTS * blocks; blocks = c.blocks }

-- whole blocks that end at or below both the end of the cache and the least resume
abbrev pub free_blocks : PlainAgent → ℕ → ℕ
free_blocks a least = blocks.free_blocks a.cache.low (cache.high a.cache) least

-- the fewest blocks that make room for so many events, or all that are free
abbrev pub drops : PlainAgent → ℕ → ℕ → ℕ
drops a least want = blocks.blocks_to_drop (cache.room a.cache) (free_blocks a least) want

abbrev pub plan_count : ℕ → ℕ → Plan
plan_count drops count = if count == 0 then plan.Held else plan.Take drops count

abbrev pub plan_want : PlainAgent → ℕ → ℕ → Plan
plan_want a least want = plan_count (drops a least want) (min want (cache.room a.cache + BLOCK_EVENTS * drops a least want))

-- what a pull would do to the cache, for a log of this length
abbrev pub plan_of : PlainAgent → ℕ → ℕ → ℕ → Plan
plan_of a max_events len least =
    if cache.high a.cache == len then plan.Dry
    else plan_want a least (min (pull_size max_events) (len - cache.high a.cache))

-- how many blocks a pull drops and how many events it takes
abbrev pub plan_pull : PlainAgent → ℕ → ℕ → ℕ → ℕ → Result Plan StaleAgent
plan_pull a generation max_events len least = answered a generation (plan_of a max_events len least)

-- What a plan to take promises: the blocks are there, and none holds an event at or past the least resume;
-- the events are in the log, and the cache has room for them.
pub record IsTakeable (a : PlainAgent) (len least drops count : ℕ) : Type 0 where
  pub blocks : BLOCK_EVENTS * drops ≤ length a.cache.events
  pub spent : BLOCK_EVENTS * drops ≤ least - a.cache.low
  pub some : 0 < count
  pub few : count ≤ PULL_EVENTS
  pub fits : count ≤ cache.room a.cache + BLOCK_EVENTS * drops
  pub there : cache.high a.cache + count ≤ len

-- The plan drops no block with an event at or past the least resume, and takes events of the log for which
-- there is room.
abbrev pub MayTake : PlainAgent → ℕ → ℕ → Plan → Type 0
MayTake a len least (plan.Take drops count) = IsTakeable a len least drops count
MayTake a len least _ = Unit {0}

-- the agent after a pull: without some blocks, and with the events behind, bare
abbrev pub pulled : PlainAgent → ℕ → List Event → PlainAgent
pulled a drops events = record a { cache = cache.with_events (without_blocks drops a.cache) (map bare events) }

-- a cache of the agent takes so many events of the log, which are the next
abbrev pub fill : PlainAgent → cache.PlainCache → PlainQueue → ℕ → PlainAgent × ℕ
fill a c queue count = (record a { cache = cache.with_events c (map bare (between queue (cache.high c) (cache.high c + count))) }, count)

-- so many, or as many as there is room for and as the log has
abbrev pub fill_up : PlainAgent → cache.PlainCache → PlainQueue → ℕ → PlainAgent × ℕ
fill_up a c queue count = fill a c queue (min (min count (cache.room c)) (length queue.events - cache.high c))

-- without so many blocks, or all that are whole
abbrev pub take_next : PlainAgent → ℕ → PlainQueue → ℕ → PlainAgent × ℕ
take_next a drops queue count = fill_up a (without_blocks (min drops (length a.cache.events / BLOCK_EVENTS)) a.cache) queue count

-- what a call changes and answers; a caller that names another generation is refused, and changes nothing
abbrev pub if_current : {S T : Type 0} → PlainAgent → ℕ → S → S × T → S × Result T StaleAgent
if_current a generation was done = if generation == a.generation then (done.0, Ok done.1) else (was, Err (record { now = a.generation }))

-- the agent after a pull, and how many events it took, for a caller that names the agent's generation
abbrev pub pull : PlainAgent → ℕ → ℕ → PlainQueue → ℕ → PlainAgent × Result ℕ StaleAgent
pull a generation drops queue count = if_current a generation a (take_next a drops queue count)

-- what a plan promises of a pull: the blocks are there, the log has the events, and there is room for them
pub record CanTake (a : PlainAgent) (queue : PlainQueue) (drops count : ℕ) : Type 0 where
  pub blocks : BLOCK_EVENTS * drops ≤ length a.cache.events
  pub room : count ≤ cache.room a.cache + BLOCK_EVENTS * drops
  pub there : cache.high a.cache + count ≤ length queue.events

-- a pull that drops and takes all that was planned
abbrev pub take_planned : PlainAgent → ℕ → PlainQueue → ℕ → PlainAgent × ℕ
take_planned a drops queue count = (pulled a drops (between queue (cache.high a.cache) (cache.high a.cache + count)), count)

-- the free blocks beyond those to keep; a part of a block counts as one
abbrev pub purges : PlainAgent → ℕ → ℕ → ℕ
purges a keep least = blocks.blocks_to_purge (cache.block_count a.cache) (free_blocks a least) keep

-- the cache without its first blocks, and the position that it then begins at
abbrev pub purge_blocks : PlainAgent → ℕ → PlainAgent × ℕ
purge_blocks a blocks = (record a { cache = without_blocks blocks a.cache }, a.cache.low + BLOCK_EVENTS * blocks)

abbrev pub purge_free : PlainAgent → ℕ → ℕ → PlainAgent × ℕ
purge_free a keep least = purge_blocks a (purges a keep least)

-- the agent without the free blocks beyond those to keep, and the position at which its cache then begins
abbrev pub purge : PlainAgent → ℕ → ℕ → ℕ → PlainAgent × Result ℕ StaleAgent
purge a generation keep least = if_current a generation a (purge_free a keep least)

-- the next generation: one more, up to the greatest of 64 bits
abbrev pub next_generation : ℕ → ℕ
next_generation generation = min (suc generation) (2 ^ 64 - 1)

-- another agent of the queue, on a silo, with an empty cache at a position
abbrev pub replaced : PlainAgent → ℕ → ℕ → ℕ → PlainAgent × ℕ
replaced a generation silo at = (record { generation = generation; silo = silo; cache = cache.empty a.cache.blocks at }, generation)

-- the next agent, with the next generation and an empty cache
abbrev pub take_over : PlainAgent → ℕ → ℕ → PlainAgent × ℕ
take_over a silo at = replaced a (next_generation a.generation) silo at
