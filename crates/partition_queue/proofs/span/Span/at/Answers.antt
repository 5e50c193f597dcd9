use Rattle.partition_queue.proofs.Prelude.{◌∙◌, length, arith, ap, sym}
use Rattle.partition_queue.proofs.EventLemmas.{between_at, length-bare}
use Rattle.partition_queue.proofs.span.Span.at.Goals as goal

pub overflow_add-self-inside : goal.overflow_add-self-inside
overflow_add-self-inside c =
    let span = c.self.inside in
    omega (arith, c.requires, ap length c.self.view_is, length-bare span.queue.now span.from span.to c.self.invariant.1, c.self.invariant.2)

pub returns : goal.returns
returns c =
    let span = c.self.inside in
    let inside = rw (← c.self.view_is) at c.requires in
    rw (← c.self.view_is) (c.header_at.ensures ∙ sym (between_at span.queue.now span.from span.to c.args.index c.self.invariant.1 inside))
