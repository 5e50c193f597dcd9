use Rattle.step_core.proofs.Prelude.{memory-along, performs-along}
use Rattle.step_core.specs.PlainOf.{plain_of}
use Rattle.step_core.specs.Replied.{replied}
use Rattle.step_core.proofs.StartOps.{starts-at, starts-below, starts-latest}
use Rattle.step_core.proofs.publishing.subscribe.Goals as goal

pub returns-then-is_before-clause-performs : goal.returns-then-is_before-clause-performs
returns-then-is_before-clause-performs c =
    starts-below c.args.parts.now c.args.stream.now c.args.grain.now c.args.start c.in-At.token c.low_token-low.result c.high_token-high.result c.is_before.result
    c.in-At.is c.low_token-low.ensures c.high_token-high.ensures c.is_before.ensures c.if-is_before.true

pub returns-in-Latest-clause-performs : goal.returns-in-Latest-clause-performs
returns-in-Latest-clause-performs c =
    let parts = c.args.parts.now in
    performs-along (plain_of parts) (plain_of c.subscribe_at.new.parts) (replied c.subscribe_at.result) _ _
    (starts-latest parts c.args.stream.now c.args.grain.now c.args.start c.batches.result c.high-position.result c.cache.result.now c.in-Latest.is c.batches.ensures.count c.cache.ensures c.high-position.ensures)
    c.subscribe_at.ensures.performs

pub returns-in-Latest-clause-memory : goal.returns-in-Latest-clause-memory
returns-in-Latest-clause-memory c =
    memory-along c.subscribe_at.result _ _
    (starts-latest c.args.parts.now c.args.stream.now c.args.grain.now c.args.start c.batches.result c.high-position.result c.cache.result.now c.in-Latest.is c.batches.ensures.count c.cache.ensures c.high-position.ensures)
    c.subscribe_at.ensures.memory

pub returns-else-is_before-clause-performs : goal.returns-else-is_before-clause-performs
returns-else-is_before-clause-performs c =
    let parts = c.args.parts.now in
    performs-along (plain_of parts) (plain_of c.subscribe_at-in-At.new.parts) (replied c.subscribe_at-in-At.result) _ _
    (starts-at parts c.args.stream.now c.args.grain.now c.args.start c.in-At.token c.low_token-low.result c.is_before.result c.lower-position.result c.cache-in-At.result.now
    c.requires.assembled.cached c.in-At.is c.low_token-low.ensures c.is_before.ensures c.if-is_before.false c.cache-in-At.ensures c.lower-position.ensures.lower)
    c.subscribe_at-in-At.ensures.performs

pub returns-else-is_before-clause-memory : goal.returns-else-is_before-clause-memory
returns-else-is_before-clause-memory c =
    memory-along c.subscribe_at-in-At.result _ _
    (starts-at c.args.parts.now c.args.stream.now c.args.grain.now c.args.start c.in-At.token c.low_token-low.result c.is_before.result c.lower-position.result c.cache-in-At.result.now
    c.requires.assembled.cached c.in-At.is c.low_token-low.ensures c.is_before.ensures c.if-is_before.false c.cache-in-At.ensures c.lower-position.ensures.lower)
    c.subscribe_at-in-At.ensures.memory
