use Rattle.queue_callers.proofs.Prelude.{arith, refl, rules, common_steps}
use Rattle.stream_model.proofs.Answering.{on-error}
use Rattle.queue_callers.proofs.Splitting.{all-whole, none-back, refused-alike, refused-back, split-more, splits-off, takes-back}
use Rattle.queue_callers.proofs.caller.split_all.Goals as goal

pub returns-in_err-made-clause-err : goal.returns-in_err-made-clause-err
returns-in_err-made-clause-err g c = on-error c.from_residual.result (takes-back c.args.queues.now.items c.args.queues.now.items (none-back c.args.queues.now.items))

pub join_all-requires-after_bounds : goal.join_all-requires-after_bounds
join_all-requires-after_bounds g c = λ κs bounds.
    let kept = c.loop-at.invariant in
    refused-alike c.args.queues.now.items c.loop-at.queues.items _ c.loop-at.made.items c.loop-at.at c.split.new.self kept.same kept.made kept.off refl

pub returns-in-Err-clause-err : goal.returns-in-Err-clause-err
returns-in-Err-clause-err g c =
    let kept = c.loop-at.invariant in
    takes-back _ _
    (refused-back c.args.queues.now.items c.loop-at.queues.items _ c.join_all.new.queues.items c.loop-at.made.items c.loop-at.at c.index_mut-queue.result.now c.split.new.self (first_of (omega (arith, c.loop-at-test.true, c.len-at-end.ensures), search rules, grind (arith, common_steps))) kept.same kept.made kept.off
    c.index_mut-queue.ensures.value c.in-Err.ensures.refused refl (all-whole _ _ _ c.join_all.ensures))

pub loop-at-preserved : goal.loop-at-preserved
loop-at-preserved g c =
    let kept = c.loop-at.invariant in
    let more = split-more c.args.queues.now.items c.loop-at.queues.items _ c.loop-at.made.items c.push_reserved.new.self.items c.loop-at.at c.index_mut-queue.result.now c.split.new.self c.in-Ok.new (first_of (omega (arith, c.loop-at-test.true, c.len-at-end.ensures), search rules, grind (arith, common_steps)))
    kept.same kept.made kept.off c.index_mut-queue.ensures.value c.in-Ok.ensures.same refl c.in-Ok.ensures.new c.push_reserved.ensures.items in
    record { same = more.0; made = more.1; off = more.2; room = (let same = c.push_reserved.ensures.capacity in let room = kept.room in omega arith) }

pub returns-clause-ok : goal.returns-clause-ok
returns-clause-ok g c =
    let kept = c.loop-at.invariant in
    splits-off c.args.queues.now.items c.loop-at.made.items c.loop-at.queues.items c.loop-at.at (first_of (omega (arith, c.loop-at-test.false, c.len-at-end.ensures), search rules, grind (arith, common_steps))) kept.same kept.made kept.off
