use Rattle.std.proofs.Common.{◌≡◌, true, arith}
use Rattle.consumer_grain.specs.Handled.{rises_from}
use Rattle.consumer_grain.proofs.NumberLemmas.{rises-with_number}
use Rattle.consumer_grain.proofs.activation.Activation.offer.Goals as goal
use Rattle.consumer_grain.proofs.activation.Activation.offer.Goals.{then-not-self, else-not-self}

pub invariant_of-self-2 : goal.invariant_of-self-2
invariant_of-self-2 c =
    let rising : rises_from 0 c.add_number.new.numbers.items ≡ true =
    rw c.in_ok-add_number.ensures.numbers (rises-with_number 0 c.args.delivery.sub c.self.inside.subs.items (omega arith) c.self.invariant) in
    elim c.if-not-self.branch [ then-not-self w ↦ rw w.self-inside-is rising | else-not-self w ↦ rw w.self-inside-is rising ]
