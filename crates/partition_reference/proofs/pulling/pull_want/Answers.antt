use Rattle.partition_reference.proofs.Prelude.{◌≡◌, ◌+◌, ◌*◌, ◌∙◌, min, ap, unwrap_or, BLOCK_EVENTS, performs-along, memory-along, want-pressed, want-events, drops, room}
use Rattle.stream_ident.specs.declared.ident.SubName.TheVariants as name
use Rattle.partition_reference.proofs.pulling.pull_want.Goals as goal

pub returns-then-count-eq0-clause-performs : goal.returns-then-count-eq0-clause-performs
returns-then-count-eq0-clause-performs c =
    let p = c.args.p.now in
    let want = c.args.want in
    let count : c.min-count.result ≡ min want (room p + BLOCK_EVENTS * drops p want) =
    c.min-count.ensures ∙ (λ i. min want (c.room.ensures.room i + BLOCK_EVENTS * c.drops-blocks.ensures.drops i))
    in
    want-pressed p want c.min-count.result c.unwrap_or-by.result count c.if-count-eq0.true (c.unwrap_or-by.ensures ∙ ap (λ by. unwrap_or by (name.Explicit 0)) c.slowest_name.ensures)

pub returns-clause-performs : goal.returns-clause-performs
returns-clause-performs c =
    let p = c.args.p.now in
    let want = c.args.want in
    let count : c.min-count.result ≡ min want (room p + BLOCK_EVENTS * drops p want) =
    c.min-count.ensures ∙ (λ i. min want (c.room.ensures.room i + BLOCK_EVENTS * c.drops-blocks.ensures.drops i))
    in
    performs-along p c.pull_events.new.p c.pull_events.result _ _ (want-events p want c.min-count.result c.drops-blocks.result c.drops-blocks.ensures.drops count c.if-count-eq0.false) c.pull_events.ensures.performs

pub returns-clause-memory : goal.returns-clause-memory
returns-clause-memory c =
    let p = c.args.p.now in
    let want = c.args.want in
    let count : c.min-count.result ≡ min want (room p + BLOCK_EVENTS * drops p want) =
    c.min-count.ensures ∙ (λ i. min want (c.room.ensures.room i + BLOCK_EVENTS * c.drops-blocks.ensures.drops i))
    in
    memory-along c.pull_events.result _ _ (want-events p want c.min-count.result c.drops-blocks.result c.drops-blocks.ensures.drops count c.if-count-eq0.false) c.pull_events.ensures.memory
