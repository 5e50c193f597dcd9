use Rattle.silo_loops.proofs.Prelude.{arith, rules, ap, ◌∙◌, get_or, length, at_read, HoldsAt}
use borrow.Author.Count.{below_more}
use Rattle.silo_loops.specs.Lines.{HasLooked}
use Rattle.silo_loops.proofs.worker_steps.all_looked.Goals as goal

pub loop-line-preserved : goal.loop-line-preserved
loop-line-preserved g c =
    let lines = c.args.lines.now.items in
    let same = c.deref-line-items.ensures.value in
    below_more (λ k. HoldsAt (λ line. HasLooked line) lines k) c.loop-line.line-index c.loop-line.invariant
    (at_read lines (λ line. HasLooked line) c.loop-line.line-index c.line-item.result (omega (arith, c.loop-line-test.true, ap length same)) (c.line-item.is ∙ ap (λ l. get_or l c.loop-line.line-index c.line-item.result) same) (search rules))
