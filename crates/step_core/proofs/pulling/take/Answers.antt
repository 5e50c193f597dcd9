use Rattle.step_core.proofs.Prelude.{high, bare, ◌≡◌, ◌∙◌, ◌+◌, ◌≤◌, ap, sym, length, arith, length-map}
use Rattle.pubsub_registry.specs.declared.told.Implied.TheVariants as implied_told
use Rattle.partition_queue.specs.Queue.{between}
use Rattle.partition_queue.proofs.EventLemmas.{length-between}
use Rattle.step_core.specs.Replied.{reply_of}
use Rattle.step_core.proofs.TakeOps.{makes-is, makes-more, many-assembled, many-performs, take-assembled, take-makes, take-memory, take-performs}
use Rattle.step_core.proofs.pulling.take.Goals as goal

pub imply-requires-clause-few : goal.imply-requires-clause-few
imply-requires-clause-few c =
    let parts = c.args.parts.now in
    let top : c.high-high.result ≡ high parts.agent.cache = c.high-high.ensures ∙ ap high c.cache.ensures in
    let there : c.high-high.result + c.args.count ≤ length parts.queue.events = omega (arith, top, c.requires.takeable.there) in
    omega (arith, ap length c.between.ensures, length-map (between parts.queue c.high-high.result (c.high-high.result + c.args.count)) bare, length-between parts.queue c.high-high.result (c.high-high.result + c.args.count) there, c.requires.takeable.few)

pub returns-in_err-implied-clause-memory : goal.returns-in_err-implied-clause-memory
returns-in_err-implied-clause-memory c =
    take-memory c.args.parts.now c.args.drops c.args.count c.from_residual.result c.requires.agrees.assembled (sym c.requires.agrees.records.long)
    (makes-more c.args.parts.now c.args.count c.high-high.result c.between.result (c.high-high.ensures ∙ ap high c.cache.ensures) c.between.ensures c.in_err-implied.ensures.memory).0

pub returns-in_err-implied-clause-makes : goal.returns-in_err-implied-clause-makes
returns-in_err-implied-clause-makes c =
    let more = makes-more c.args.parts.now c.args.count c.high-high.result c.between.result (c.high-high.ensures ∙ ap high c.cache.ensures) c.between.ensures c.in_err-implied.ensures.memory in
    take-makes c.args.parts.now c.args.drops c.args.count c.from_residual.result c.requires.agrees.assembled (sym c.requires.agrees.records.long) more.0 more.1

pub returns-in-TooMany-clause-assembled : goal.returns-in-TooMany-clause-assembled
returns-in-TooMany-clause-assembled c =
    many-assembled c.args.parts.now c.imply.new.self c.args.count c.requires.agrees.assembled
    (makes-is c.args.parts.now c.imply.new.self c.args.count c.high-high.result c.between.result c.in_ok-implied.implied implied_told.TooMany (c.high-high.ensures ∙ ap high c.cache.ensures) c.between.ensures c.in-TooMany.is c.in_ok-implied.ensures.performs)

pub returns-in-TooMany-clause-performs : goal.returns-in-TooMany-clause-performs
returns-in-TooMany-clause-performs c =
    many-performs c.args.parts.now c.imply.new.self c.args.drops c.args.count c.requires.agrees.assembled (sym c.requires.agrees.records.long)
    (makes-is c.args.parts.now c.imply.new.self c.args.count c.high-high.result c.between.result c.in_ok-implied.implied implied_told.TooMany (c.high-high.ensures ∙ ap high c.cache.ensures) c.between.ensures c.in-TooMany.is c.in_ok-implied.ensures.performs)

pub returns-in-Implied-clause-assembled : goal.returns-in-Implied-clause-assembled
returns-in-Implied-clause-assembled c =
    take-assembled c.args.parts.now c.fill.new.parts c.imply.new.self c.args.drops c.args.count c.requires.agrees.assembled (sym c.requires.agrees.records.long) (c.requires.takeable.blocks, c.requires.takeable.there)
    (makes-is c.args.parts.now c.imply.new.self c.args.count c.high-high.result c.between.result c.in_ok-implied.implied implied_told.Implied (c.high-high.ensures ∙ ap high c.cache.ensures) c.between.ensures c.in-Implied.is c.in_ok-implied.ensures.performs) c.fill.ensures.parts

pub returns-in-Implied-clause-performs : goal.returns-in-Implied-clause-performs
returns-in-Implied-clause-performs c =
    take-performs c.args.parts.now c.fill.new.parts c.imply.new.self c.args.drops c.args.count (reply_of c.fill.result) c.requires.agrees.assembled (sym c.requires.agrees.records.long) (c.requires.takeable.blocks, c.requires.takeable.there)
    (makes-is c.args.parts.now c.imply.new.self c.args.count c.high-high.result c.between.result c.in_ok-implied.implied implied_told.Implied (c.high-high.ensures ∙ ap high c.cache.ensures) c.between.ensures c.in-Implied.is c.in_ok-implied.ensures.performs) c.fill.ensures.parts c.fill.ensures.reply
