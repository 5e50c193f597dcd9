use Rattle.step_core.proofs.Prelude.{high, ◌≡◌, ◌∙◌, ap, arith, min, sym, move-spent, slowest}
use Rattle.step_core.specs.PlainOf.{plain_of}
use Rattle.step_core.proofs.Shared.{high-end}
use Rattle.step_core.proofs.MovedOps.{moved-assembled, moved-performs}
use Rattle.step_core.proofs.moving.move_queue.Goals as goal

pub returns-then-is_spent-clause-performs : goal.returns-then-is_spent-clause-performs
returns-then-is_spent-clause-performs c = move-spent (plain_of c.args.parts.now) c.args.silo (sym c.is_spent.ensures ∙ c.if-is_spent.true)

pub token_at-low-requires : goal.token_at-low-requires
token_at-low-requires c =
    let parts = c.args.parts.now in
    let end : c.high.result ≡ high parts.agent.cache = c.high.ensures ∙ ap high c.cache.ensures in
    omega (arith, c.min-position.ensures, high-end parts c.requires)

pub returns-clause-assembled : goal.returns-clause-assembled
returns-clause-assembled c =
    moved-assembled c.args.parts.now c.args.silo c.min-position.result c.take_over-generation.new.self c.take_over-generation.result c.rewind_all.new.self c.requires c.take_over-generation.ensures c.rewind_all.ensures c.requires.records c.requires.assembled

pub returns-clause-performs : goal.returns-clause-performs
returns-clause-performs c =
    let parts = c.args.parts.now in
    let least : c.min-position.result ≡ min (high parts.agent.cache) (slowest (plain_of parts)) =
    c.min-position.ensures ∙ ap (λ n. min n c.least_resume.result) (c.high.ensures ∙ ap high c.cache.ensures) ∙ ap (min (high parts.agent.cache)) c.least_resume.ensures
    in
    moved-performs parts c.args.silo c.min-position.result c.take_over-generation.new.self c.take_over-generation.result c.rewind_all.new.self c.requires c.take_over-generation.ensures c.rewind_all.ensures
    c.token_at-low.result c.requires.records (sym c.is_spent.ensures ∙ c.if-is_spent.false) least c.token_at-low.ensures
