use Rattle.step_core.proofs.Prelude.{done-current, done-stale, retry, ◌∙◌, ap, Reply, PlainPartition, state_at}
use Rattle.step_core.specs.PlainOf.{plain_of}
use Rattle.step_core.proofs.RetryOps.{refused-assembled, retry-nothing, retry-performs, retry-refused, retry-stays, rewinding, stepped-assembled}
use Rattle.step_core.proofs.acknowledging.retry.Goals as goal

pub returns-in_default-clause-performs : goal.returns-in_default-clause-performs
returns-in_default-clause-performs c =
    ap {B = PlainPartition × Reply} (λ told. (plain_of c.args.parts.now, told)) c.unknown.ensures.reply
    ∙ retry-nothing c.args.parts.now c.args.generation c.args.sub.now c.requires.records c.in_default.ensures.number

pub returns-in-Ok : goal.returns-in-Ok
returns-in-Ok c =
    let parts = c.args.parts.now in
    let done = done-current parts.agent c.args.generation parts.subs (rewinding parts c.in-Some.number) c.retry.new.self c.in-Ok.retried c.in-Ok.ensures in
    record {
      assembled = stepped-assembled parts c.in-Some.number (retry (state_at parts.subs c.in-Some.number)) c.retry.new.self c.in-Ok.retried c.requires.records c.in-Some.ensures.within (retry-stays (state_at parts.subs c.in-Some.number)) c.requires.assembled done.is;
      performs =
          ap {B = PlainPartition × Reply} (λ told. (plain_of (record parts { subs = c.retry.new.self }), told)) c.told_of_retry.ensures.reply
          ∙ retry-performs parts c.args.generation c.args.sub.now c.in-Some.number c.retry.new.self c.in-Ok.retried c.requires.records c.in-Some.ensures.number done;
      told = c.told_of_retry.ensures.told;
    }

pub returns-in-Err : goal.returns-in-Err
returns-in-Err c =
    let parts = c.args.parts.now in
    let refused = done-stale parts.agent c.args.generation parts.subs (rewinding parts c.in-Some.number) c.retry.new.self c.in-Err.field-0 c.in-Err.ensures in
    record {
      assembled = refused-assembled parts c.args.generation c.retry.new.self c.in-Err.field-0 refused c.requires.assembled;
      performs = retry-refused parts c.args.generation c.args.sub.now c.retry.new.self c.in-Err.field-0 refused;
      told = tt;
    }
