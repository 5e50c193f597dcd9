use Rattle.std.proofs.Common.{rules, arith}
use Rattle.queue_cache.proofs.TagLemmas.{tags_with}
use Rattle.queue_cache.proofs.cache.Block.push.Goals as goal

pub invariant_of-self : goal.invariant_of-self
invariant_of-self c =
    let block = c.self.inside in
    let room = rw (← c.self.view_is) at c.requires in
    record {
      counted = search (rules, arith);
      bound = search (rules, arith);
      roomy = search (rules, arith);
      places = search (rules, arith);
      tagged = search (rules, arith, tags_with);
    }
