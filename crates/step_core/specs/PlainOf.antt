-- The plain partition that the parts of a partition stand for.
use Rattle.stream_model.specs.declared.plain.PlainPartition.{PlainPartition}
use Rattle.queue_cache.specs.Cache.{high}
use Rattle.step_core.specs.declared.parts.Parts.{Parts}
use Rattle.step_core.specs.View.{subs_of, grains_of}

abbrev pub plain_of : Parts → PlainPartition
plain_of parts =
    record {
      log = parts.queue.events;
      batches = parts.queue.batches;
      low = parts.agent.cache.low;
      high = high parts.agent.cache;
      generation = parts.agent.generation;
      silo = parts.agent.silo;
      subs = subs_of parts.subs.registry.names parts.subs.states;
      explicit = parts.subs.registry.explicit;
      rules = parts.subs.registry.rules;
      grains = grains_of parts.subs.registry.names parts.grains;
      rises = parts.rises;
      turns = parts.turns;
      blocks = parts.agent.cache.blocks;
      limits = parts.limits;
    }
