use Rattle.partition_queue.proofs.Prelude.{◌∙◌, length, arith, ap}
use Rattle.partition_queue.proofs.EventLemmas.{between_first, length-bare}
use Rattle.partition_queue.proofs.span.Span.first.Goals as goal

pub overflow_add-self-inside : goal.overflow_add-self-inside
overflow_add-self-inside c =
    let span = c.self.inside in
    omega (arith, c.requires, ap length c.self.view_is, length-bare span.queue.now span.from span.to c.self.invariant.1, c.self.invariant.2)

pub returns : goal.returns
returns c =
    let span = c.self.inside in
    let inside = rw (← c.self.view_is) at c.requires in
    rw (← c.self.view_is) (c.new.ensures ∙ between_first span.queue.now span.from span.to c.args.count c.self.invariant.1 inside)
