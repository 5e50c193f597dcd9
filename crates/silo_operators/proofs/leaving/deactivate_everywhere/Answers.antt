use Rattle.silo_operators.proofs.Prelude.{goes-length, ◌<◌, arith, length, rules, set, common_steps}
use Rattle.silo_operators.specs.declared.halt.Halt.{Halt}
use Rattle.silo_operators.specs.Changes.{HasFoundOne}
use Rattle.silo_operators.proofs.Making.{passed-on}
use Rattle.silo_operators.proofs.Changing.{get-here, since-all, since-more, since-none, since-on}
use Rattle.silo_operators.proofs.leaving.deactivate_everywhere.Goals as goal

pub loop-queue-init : goal.loop-queue-init
loop-queue-init g c = since-none _ c.args.lines.now.items

pub loop-queue-preserved : goal.loop-queue-preserved
loop-queue-preserved g c =
    let long = goes-length _ _ c.loop-queue.invariant.on in
    since-more _ c.args.lines.now.items c.loop-queue.lines.items c.loop-queue.queue c.index_mut-line.result.now c.deactivate.new.line (first_of (omega (arith, c.loop-queue-test.true, c.len-queue-end.ensures, long), search rules, grind (arith, common_steps))) c.index_mut-line.ensures.value
    c.deactivate.ensures.on c.in_ok-deactivate.ensures.done c.loop-queue.invariant

pub returns-in_err-deactivate : goal.returns-in_err-deactivate
returns-in_err-deactivate g c =
    let long = goes-length _ _ c.loop-queue.invariant.on in
    let lines = c.loop-queue.lines.items in
    let at = c.loop-queue.queue in
    let within : at < length lines = omega (arith, c.loop-queue-test.true, c.len-queue-end.ensures, long) in
    let fresh = set lines at c.deactivate.new.line in
    let why = c.in_err-deactivate.field-0.0 in
    record {
      on = since-on _ c.args.lines.now.items lines at c.index_mut-line.result.now c.deactivate.new.line within c.index_mut-line.ensures.value c.deactivate.ensures.on c.loop-queue.invariant;
      nowhere = search rules;
      done = search rules;
      found = passed-on (λ (h : Halt). HasFoundOne h fresh) c.from_residual.result why c.from_residual.ensures.1 (at, c.deactivate.new.line, get-here lines at c.deactivate.new.line within, c.in_err-deactivate.ensures.found);
    }

pub returns : goal.returns
returns g c =
    let all = since-all _ c.args.lines.now.items c.loop-queue.lines.items c.loop-queue.queue (omega (arith, c.loop-queue-test.false, c.len-queue-end.ensures)) c.loop-queue.invariant in
    record { on = c.loop-queue.invariant.on; nowhere = λ queue was is had has. (all queue was is had has).0; done = λ queue was is had has. (all queue was is had has).1; found = tt }
