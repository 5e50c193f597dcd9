use Rattle.std.proofs.Common.{◌==◌, not, arith}
use Rattle.std.proofs.lemmas.List.Sums.{count_by-le-length, length-filter}
use Rattle.consumer_grain.specs.declared.mailbox.Delivery.{Delivery}
use Rattle.consumer_grain.proofs.mailbox.Mailbox.drop_sub.Goals as goal

pub invariant_of-self : goal.invariant_of-self
invariant_of-self c =
    let waiting = c.self.inside.deliveries.items in
    let other = λ (d : Delivery). not (c.args.sub == d.sub) in
    rw c.keep_others.ensures.items (
      omega (arith, c.self.invariant.0, c.keep_others.ensures.capacity),
      omega (arith, length-filter other waiting, count_by-le-length other waiting, c.self.invariant.1),
    )
