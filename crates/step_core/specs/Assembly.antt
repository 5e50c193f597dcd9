-- How the parts of a partition agree with each other.
use Rattle.std.specs.Prelude.{◌≡◌, length, map}
use Rattle.std.specs.List.{AllByRecursion}
use Rattle.stream_model.specs.Bounds.{IsWithinLimits}
use Rattle.stream_model.specs.Positions.{between}
use Rattle.stream_model.specs.Step.{IsReached}
use Rattle.grain_table.specs.Grains.{AreDistinct}
use Rattle.pubsub_registry.specs.Index.{AreUnique}
use Rattle.queue_cache.specs.Cache.{high}
use Rattle.queue_mapper.specs.Place.{bare}
use Rattle.subscription_table.specs.Standing.{AreRecords}
use Rattle.step_core.specs.declared.parts.Parts.{Parts}
use Rattle.step_core.specs.Known.{AreKnown}
use Rattle.step_core.specs.Numbers.{IsBelow}
use Rattle.step_core.specs.PlainOf.{plain_of}

-- the cache has the events of the log at its positions, without their payloads
abbrev pub HasEvents : Parts → Type 0
HasEvents parts = parts.agent.cache.events ≡ map bare (between parts.queue.events parts.agent.cache.low (high parts.agent.cache))

-- the parts have the partition's limits, the cache has events of the log, and grains know only numbers
-- that are given, of records of theirs, and all that something was offered for
pub record IsAssembled (parts : Parts) : Type 0 where
  pub most_subs : parts.subs.registry.most_names ≡ parts.limits.subs
  pub most_rules : parts.subs.registry.most_rules ≡ parts.limits.rules
  pub most_events : parts.queue.limit ≡ parts.limits.events
  pub cached : HasEvents parts
  pub numbered : AllByRecursion (λ entry. IsBelow (length parts.subs.registry.names) entry.1) parts.grains
  pub known : AreKnown parts.subs.registry.names parts.subs.states parts.grains

-- The invariant, from which each operation goes out: a legal history leads to the plain partition that the
-- parts stand for, and the tables are as they promise of themselves (no name and no grain has two numbers,
-- and each name has a state that agrees with its registration). `docs/ARCHITECTURE.md` explains its fields.
pub record Agrees (parts : Parts) : Type 0 where
  pub assembled : IsAssembled parts
  pub within : IsWithinLimits (plain_of parts)
  pub reached : IsReached (plain_of parts)
  pub unique : AreUnique parts.subs.registry.names
  pub records : AreRecords parts.subs
  pub distinct : AreDistinct parts.grains
