use Rattle.step_core.proofs.Prelude.{done-current, done-stale, ◌∙◌, ap, Reply, PlainPartition, state_at}
use Rattle.pulling_agent.specs.Progress.{ack}
use Rattle.step_core.specs.PlainOf.{plain_of}
use Rattle.step_core.proofs.RetryOps.{ack-nothing, ack-performs, ack-refused, ack-stays, acking, handled-in, refused-assembled, stepped-assembled}
use Rattle.step_core.proofs.acknowledging.ack.Goals as goal

pub returns-in_default-clause-performs : goal.returns-in_default-clause-performs
returns-in_default-clause-performs c =
    ap {B = PlainPartition × Reply} (λ told. (plain_of c.args.parts.now, told)) c.unknown.ensures.reply
    ∙ ack-nothing c.args.parts.now c.args.generation c.args.sub.now c.args.token c.requires.records c.in_default.ensures.number

pub returns-in-Ok : goal.returns-in-Ok
returns-in-Ok c =
    let parts = c.args.parts.now in
    let done = done-current parts.agent c.args.generation parts.subs (acking parts c.args.token c.in-Some.number) c.ack.new.self c.in-Ok.acked c.in-Ok.ensures in
    record {
      assembled = stepped-assembled parts c.in-Some.number (ack (state_at parts.subs c.in-Some.number) parts.queue c.args.token) c.ack.new.self c.in-Ok.acked c.requires.records c.in-Some.ensures.within (ack-stays (state_at parts.subs c.in-Some.number) parts.queue c.args.token) c.requires.assembled done.is;
      performs =
          ap {B = PlainPartition × Reply} (λ told. (plain_of (record parts { subs = c.ack.new.self }), told)) c.told_of_ack.ensures.reply
          ∙ ack-performs parts c.args.generation c.args.sub.now c.args.token c.in-Some.number c.ack.new.self c.in-Ok.acked c.requires.records c.in-Some.ensures.number done;
      told = c.told_of_ack.ensures.told;
    }

pub returns-in-Err : goal.returns-in-Err
returns-in-Err c =
    let parts = c.args.parts.now in
    let refused = done-stale parts.agent c.args.generation parts.subs (acking parts c.args.token c.in-Some.number) c.ack.new.self c.in-Err.field-0 c.in-Err.ensures in
    record {
      assembled = refused-assembled parts c.args.generation c.ack.new.self c.in-Err.field-0 refused c.requires.assembled;
      performs = ack-refused parts c.args.generation c.args.sub.now c.args.token c.ack.new.self c.in-Err.field-0 refused;
      told = tt;
    }

pub ack-requires-clause-handled : goal.ack-requires-clause-handled
ack-requires-clause-handled c = handled-in c.args.parts.now c.in-Some.number c.requires.within c.requires.records c.in-Some.ensures.within
