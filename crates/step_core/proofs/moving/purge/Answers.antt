use Rattle.step_core.proofs.Prelude.{done-current, done-stale, PlainAgent, purge_free, ◌∙◌, ap, arith, subst, sym, Reply, PlainPartition}
use Rattle.step_core.specs.Assembly.{IsAssembled}
use Rattle.stream_model.specs.declared.reply.Reply.TheVariants as reply
use Rattle.step_core.specs.PlainOf.{plain_of}
use Rattle.step_core.proofs.Shared.{high-end}
use Rattle.step_core.proofs.MovedOps.{purge-refused, purged-assembled, purged-done, purged-low}
use Rattle.step_core.proofs.moving.purge.Goals as goal

pub token_at-requires : goal.token_at-requires
token_at-requires c =
    let parts = c.args.parts.now in
    let least = c.least_resume-least.result in
    let done = done-current parts.agent c.args.generation parts.agent (purge_free parts.agent c.args.keep least) c.purge.new.self c.in-Ok.low c.in-Ok.ensures.purge in
    omega (arith, purged-low parts c.args.generation c.args.keep least c.purge.new.self c.in-Ok.low done, high-end parts c.requires)

pub returns-in-Ok-clause-assembled : goal.returns-in-Ok-clause-assembled
returns-in-Ok-clause-assembled c =
    let parts = c.args.parts.now in
    let least = c.least_resume-least.result in
    purged-assembled parts c.args.generation c.args.keep least c.purge.new.self c.in-Ok.low c.requires.assembled
    (done-current parts.agent c.args.generation parts.agent (purge_free parts.agent c.args.keep least) c.purge.new.self c.in-Ok.low c.in-Ok.ensures.purge)

pub returns-in-Ok-clause-performs : goal.returns-in-Ok-clause-performs
returns-in-Ok-clause-performs c =
    let parts = c.args.parts.now in
    let least = c.least_resume-least.result in
    ap {B = PlainPartition × Reply} (λ token. (plain_of (record parts { agent = c.purge.new.self }), reply.Purged token)) c.token_at.ensures
    ∙ purged-done parts c.args.generation c.args.keep least c.purge.new.self c.in-Ok.low c.least_resume-least.ensures
    (done-current parts.agent c.args.generation parts.agent (purge_free parts.agent c.args.keep least) c.purge.new.self c.in-Ok.low c.in-Ok.ensures.purge)

pub returns-in-Err-clause-assembled : goal.returns-in-Err-clause-assembled
returns-in-Err-clause-assembled c =
    let parts = c.args.parts.now in
    let refused = done-stale parts.agent c.args.generation parts.agent (purge_free parts.agent c.args.keep c.least_resume-least.result) c.purge.new.self c.in-Err.field-0 c.in-Err.ensures.purge in
    subst (λ (a : PlainAgent). IsAssembled (record parts { agent = a })) (sym refused.same) c.requires.assembled

pub returns-in-Err-clause-performs : goal.returns-in-Err-clause-performs
returns-in-Err-clause-performs c =
    let parts = c.args.parts.now in
    purge-refused parts c.args.generation c.args.keep c.purge.new.self c.in-Err.field-0
    (done-stale parts.agent c.args.generation parts.agent (purge_free parts.agent c.args.keep c.least_resume-least.result) c.purge.new.self c.in-Err.field-0 c.in-Err.ensures.purge)
