use Rattle.std.proofs.Common.{◌∙◌, arith}
use Rattle.queue_balancer.proofs.BalanceLemmas.{KeepsBelow-swapped, KeepsBelow-none, KeepsBelow-same, count-swapped}
use Rattle.queue_balancer.proofs.balancer.keep.Goals as goal
use Rattle.queue_balancer.proofs.balancer.keep.Goals.{then-places-queue+in-Some, then-places-queue+in_default, else-places-queue}

pub loop-queue-preserved : goal.loop-queue-preserved
loop-queue-preserved c =
    let old = c.args.old.now in
    let before = c.loop-queue.places in
    let queue = c.loop-queue.queue in
    elim c.if-places-queue.branch [
      | then-places-queue+in-Some w ↦
          let after = w.swap.new.self in
          rw w.places-is (record {
            same = λ silo. count-swapped before after w.swap.ensures.permutation silo ∙ c.loop-queue.invariant.same silo;
            keeps = KeepsBelow-swapped old before after queue w.in-Some.other c.loop-queue.invariant.keeps w.swap.ensures.permutation w.swap.ensures.by_index w.in-Some.ensures.1 w.in-Some.ensures.2;
          })
      | then-places-queue+in_default w ↦
          rw w.places-is (record {
            same = c.loop-queue.invariant.same;
            keeps = KeepsBelow-none old before queue c.loop-queue.invariant.keeps (omega arith) (omega arith) w.if-places-queue.true w.in_default.ensures;
          })
      | else-places-queue w ↦
          rw w.places-is (record {
            same = c.loop-queue.invariant.same;
            keeps = KeepsBelow-same old before queue c.loop-queue.invariant.keeps w.if-places-queue.false;
          })
    ]
