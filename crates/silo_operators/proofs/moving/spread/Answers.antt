use Rattle.silo_operators.proofs.Prelude.{goes-length, ◌<◌, arith, length, rules, set, common_steps}
use Rattle.silo_operators.specs.declared.halt.Halt.{Halt}
use Rattle.silo_operators.specs.Changes.{StaysBehind}
use Rattle.silo_operators.proofs.Changing.{get-here, seen-refl, seen-set, since-all, since-more, since-next, since-none, since-on}
use Rattle.silo_operators.proofs.Making.{passed-on}
use Rattle.silo_operators.proofs.moving.spread.Goals as goal

pub loop-queue-init : goal.loop-queue-init
loop-queue-init g c = record { since = since-none _ c.args.lines.now.items; seen = seen-refl c.args.lines.now.items }

pub index_mut-line-requires : goal.index_mut-line-requires
index_mut-line-requires g c =
    let long = goes-length _ _ c.loop-queue.invariant.since.on in first_of (omega (arith, c.loop-queue-test.true, c.len-queue-end.ensures, long), grind (arith, common_steps))

pub loop-queue-preserved : goal.loop-queue-preserved
loop-queue-preserved g c =
    let long = goes-length _ _ c.loop-queue.invariant.since.on in
    let within : c.loop-queue.queue < length c.loop-queue.lines.items = omega (arith, c.loop-queue-test.true, c.len-queue-end.ensures, long) in
    let line = c.index_mut-line.result.now in
    record {
      since = since-more _ c.args.lines.now.items c.loop-queue.lines.items c.loop-queue.queue line c.move_queue.new.line within c.index_mut-line.ensures.value c.move_queue.ensures.kept.0 c.in_ok-move_queue.ensures.moved c.loop-queue.invariant.since;
      seen = seen-set c.args.lines.now.items c.loop-queue.lines.items c.loop-queue.queue line c.move_queue.new.line within c.index_mut-line.ensures.value c.move_queue.ensures.kept.1 c.loop-queue.invariant.seen;
    }

pub returns-in_err-move_queue : goal.returns-in_err-move_queue
returns-in_err-move_queue g c =
    let since = c.loop-queue.invariant.since in
    let long = goes-length _ _ since.on in
    let old = c.args.lines.now.items in
    let lines = c.loop-queue.lines.items in
    let at = c.loop-queue.queue in
    let within : at < length lines = omega (arith, c.loop-queue-test.true, c.len-queue-end.ensures, long) in
    let line = c.index_mut-line.result.now in
    let read = c.index_mut-line.ensures.value in
    let moved = c.move_queue.new.line in
    let why = c.in_err-move_queue.field-0.0 in
    let unmoved = c.in_err-move_queue.ensures.unmoved in
    record {
      on = since-on _ old lines at line moved within read c.move_queue.ensures.kept.0 since;
      seen = seen-set old lines at line moved within read c.move_queue.ensures.kept.1 c.loop-queue.invariant.seen;
      moved = search rules;
      stayed = search rules;
      behind =
          passed-on (λ (h : Halt). StaysBehind h old (set lines at moved) c.args.old.now c.args.new.now) c.from_residual.result why c.from_residual.ensures.1
          (record { queue = at; was = line; is = moved; had = since-next _ old lines at line within read since; has = get-here lines at moved within; other = unmoved.0; unmoved = unmoved.1 });
    }

pub returns : goal.returns
returns g c =
    let since = c.loop-queue.invariant.since in
    let all = since-all _ c.args.lines.now.items c.loop-queue.lines.items c.loop-queue.queue (omega (arith, c.loop-queue-test.false, c.len-queue-end.ensures)) since in
    record { on = since.on; seen = c.loop-queue.invariant.seen; moved = λ queue was is had has. (all queue was is had has).0; stayed = λ queue was is had has. (all queue was is had has).1; behind = tt }
